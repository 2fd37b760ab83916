use Rattle.std.proofs.Common.{◌≡◌, ◌∙◌, sym, ap, subst, false, true, [], List, refl}
use Rattle.bp_thread.specs.declared.job.Job.{Job}
use Rattle.bp_arbiter.specs.Arbiters.{is_lent}
use Rattle.bp_core.specs.Moments.{IsAt}
use Rattle.bp_core.proofs.Begun.{lent_at}
use Rattle.bp_core.proofs.Leads.{unlent_at, ready_is, ready_not}
use Rattle.std.proofs.lemmas.Result.{err_from_is_err_and}
use Rattle.bp_steps.specs.Steps.{pair_at}
use Rattle.bp_core.proofs.stepping.lend_on.Goals as goal

pub returns-then-not-is_ready-clause-at : goal.returns-then-not-is_ready-clause-at
returns-then-not-is_ready-clause-at c = λ taken m h.
    subst (λ (js : List Job). IsAt c.args.arbiter.now js taken m) (sym c.new.ensures.items)
    (unlent_at c.args.arbiter.now taken m h (λ e. ready_not c.phase.result (sym c.is_ready.ensures ∙ c.if-not-is_ready.true) (c.phase.ensures ∙ e)))

pub returns-clause-at : goal.returns-clause-at
returns-clause-at c = λ taken m h.
    lent_at c.args.arbiter.now c.lend.new.self c.in_ok-jobs.jobs.items taken m h (c.keeps.ensures.phased (c.in_ok-jobs.ensures.memory).before)
    (sym c.phase.ensures ∙ ready_is c.phase.result (sym c.is_ready.ensures ∙ c.if-not-is_ready.false)) c.in_ok-jobs.ensures.lent c.in_ok-jobs.ensures.distinct c.in_ok-jobs.ensures.stands c.in_ok-jobs.ensures.phase c.lend.ensures.records c.lend.ensures.ground c.lend.ensures.options

pub returns-in_err-jobs-clause-tells : goal.returns-in_err-jobs-clause-tells
returns-in_err-jobs-clause-tells c =
    let w = err_from_is_err_and c.from_residual.result c.from_residual.ensures.1 in
    rw w.1 (λ taken m h. (c.in_err-jobs.ensures.memory).tells [] taken (pair_at m) refl h.stands)

pub returns-then-not-is_ready-clause-lent : goal.returns-then-not-is_ready-clause-lent
returns-then-not-is_ready-clause-lent c = λ e. absurd (let z : true ≡ false = sym (ap is_lent e) ∙ c.requires.unlent in cc)

pub returns-clause-lent : goal.returns-clause-lent
returns-clause-lent c = λ e. record {
  ready = sym c.phase.ensures ∙ ready_is c.phase.result (sym c.is_ready.ensures ∙ c.if-not-is_ready.false);
  count = c.in_ok-jobs.ensures.count;
}
