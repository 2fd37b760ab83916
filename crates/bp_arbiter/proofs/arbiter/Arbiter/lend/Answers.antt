use Rattle.std.proofs.Common.{◌≡◌, ◌∙◌, ap, sym, false, true, [], length, refl}
use Rattle.std.proofs.lemmas.Result.{err_from_is_err_and}
use Rattle.js_meaning.specs.State.{Ground}
use Rattle.bp_floor.specs.declared.phase.Phase.TheVariants.{Ready, Lent}
use Rattle.bp_arbiter.specs.Arbiters.{PlainArbiter, stand_in}
use Rattle.bp_arbiter.specs.Runs.{seen}
use Rattle.bp_arbiter.proofs.Told.{leaves, given_up_before, given_up_now}
use Rattle.bp_arbiter.proofs.Turnings.{at_phase}
use Rattle.bp_arbiter.proofs.LendLemmas.{as_many_lent}
use Rattle.bp_arbiter.proofs.LendSteps.{lends}
use Rattle.bp_arbiter.proofs.arbiter.Arbiter.lend.Goals as goal

pub returns-then-self-clause-memory : goal.returns-then-self-clause-memory
returns-then-self-clause-memory c =
    given_up_before (λ lent. lent ≡ []) c.args.self.now (sym (ap (λ (x : PlainArbiter). x.broken) c.self.view_is) ∙ c.if-self.true)

pub returns-in_err-jobs-clause-memory : goal.returns-in_err-jobs-clause-memory
returns-in_err-jobs-clause-memory c =
    let w = err_from_is_err_and c.from_residual.result c.from_residual.ensures.1 in
    let r = c.self.inside.run in
    let v = seen r c.self.inside.phase c.self.inside.broken in
    let b = seen (record r { floor = c.lend.new.self }) c.self.inside.phase true in
    rw w.1
    (given_up_now (λ lent. lent ≡ []) c.args.self.now v b c.self.view_is c.if-self.false refl refl refl
    (λ jobs taken p n s.
    leaves c.args.self.now v b c.self.view_is (ap (λ (g : Ground). g.program) c.lend.ensures.ground) c.lend.ensures.options refl (c.in_err-jobs.ensures.memory).lines jobs taken p s))

pub returns-clause-memory : goal.returns-clause-memory
returns-clause-memory c = record { before = sym (ap (λ (x : PlainArbiter). x.broken) c.self.view_is) ∙ c.if-self.false; after = refl }

pub returns-clause-lent : goal.returns-clause-lent
returns-clause-lent c =
    let i = at_phase Ready c.args.self.now c.self.inside.run c.self.inside.phase c.self.inside.broken c.self.view_is c.requires.ready c.if-self.false c.self.invariant c.keeps.ensures in
    let r = c.self.inside.run in
    lends c.args.self.now r i c.lend.new.self c.in_ok-jobs.jobs.items c.in_ok-jobs.ensures.lent c.in_ok-jobs.ensures.filled c.lend.ensures.ground c.lend.ensures.options
    (seen (record r { floor = c.lend.new.self }) Lent false) refl

pub returns-clause-count : goal.returns-clause-count
returns-clause-count c =
    as_many_lent c.lend.new.self c.in_ok-jobs.jobs.items c.self.inside.run.floor.pair c.in_ok-jobs.ensures.filled ∙ ap (λ (a : PlainArbiter). length (stand_in a).threads) c.self.view_is
