use Rattle.std.proofs.Common.{sym, subst, refl, []}
use Rattle.bp_steps.specs.Steps as steps
use Rattle.bp_code.specs.Code.{code_of}
use Rattle.bp_arbiter.specs.Arbiters.{PlainArbiter}
use Rattle.bp_core.specs.Moments.{IsReadyAt}
use Rattle.bp_core.proofs.Leads.{ready_opened, kept_from}
use Rattle.bp_core.proofs.stepping.Core.open.Goals as goal

pub returns-clause-at : goal.returns-clause-at
returns-clause-at c =
    let m = steps.opened (code_of c.args.program c.args.options) c.args.options in
    record {
      whole = refl;
      at = c.in_ok-jobs.ensures.at [] m (subst (λ (a : PlainArbiter). IsReadyAt a [] m) (sym c.in_ok-arbiter.ensures.opened) (ready_opened c.args.program c.args.options));
    }

pub returns-clause-kept : goal.returns-clause-kept
returns-clause-kept c = kept_from _ _ _ c.in_ok-arbiter.ensures.opened c.in_ok-jobs.ensures.kept
