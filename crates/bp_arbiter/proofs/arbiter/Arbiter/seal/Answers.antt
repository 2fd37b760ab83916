use Rattle.std.proofs.Common.{◌∙◌, refl, ap, sym, subst, false, true, [], List}
use Rattle.std.proofs.lemmas.Result.{err_from_is_err_and}
use Rattle.js_meaning.specs.Bodies.{Origin}
use Rattle.bp_log.specs.declared.trace.Line.{Line}
use Rattle.bp_run.specs.Settling.{Pair}
use Rattle.bp_thread.specs.declared.job.Job.{Job}
use Rattle.bp_thread.specs.Carried.{AreCarriedOut}
use Rattle.bp_floor.specs.declared.phase.Phase.{Phase}
use Rattle.bp_floor.specs.declared.phase.Phase.TheVariants.{Lent}
use Rattle.bp_arbiter.specs.Arbiters.{PlainArbiter, StandsFor, code_in, options_in}
use Rattle.bp_arbiter.specs.Runs.{seen}
use Rattle.bp_arbiter.specs.Seal.{after_turn}
use Rattle.bp_arbiter.specs.Sound.{IsSound}
use Rattle.bp_arbiter.specs.Lend.{AreReturned}
use Rattle.bp_arbiter.proofs.Told.{given_up_before, given_up_now}
use Rattle.bp_arbiter.proofs.Turnings.{at_phase}
use Rattle.bp_arbiter.proofs.SealSteps.{floor_back, cut_off, cut_sound, seal_stands, seal_over_back, seal_grows, seal_sound}
use Rattle.bp_arbiter.proofs.arbiter.Arbiter.seal.Goals as goal

pub seal-requires-clause-back : goal.seal-requires-clause-back
seal-requires-clause-back c =
    let i = at_phase Lent c.args.self.now c.self.inside.run c.self.inside.phase c.self.inside.broken c.self.view_is c.requires.lent c.if-self.false c.self.invariant c.keeps.ensures in
    floor_back c.args.self.now c.self.inside.run i c.args.jobs.items (c.requires.back (ap (λ (x : PlainArbiter). x.broken) i.is))

pub invariant_of-self : goal.invariant_of-self
invariant_of-self c =
    let i = at_phase Lent c.args.self.now c.self.inside.run c.self.inside.phase c.self.inside.broken c.self.view_is c.requires.lent c.if-self.false c.self.invariant c.keeps.ensures in
    subst (λ (f : Phase). IsSound c.seal.new.self.draw.seed (seen c.seal.new.self f true)) (sym (ap (λ (x : PlainArbiter). x.phase) c.self.view_is ∙ c.requires.lent))
    (cut_sound c.args.self.now c.self.inside.run i c.args.jobs.items c.seal.new.self c.seal.ensures.beside (c.requires.back (ap (λ (x : PlainArbiter). x.broken) i.is)) c.in_err-seal.ensures.failed)

pub returns-then-self-clause-memory : goal.returns-then-self-clause-memory
returns-then-self-clause-memory c =
    given_up_before (AreReturned c.args.self.now c.args.jobs.items) c.args.self.now (sym (ap (λ (x : PlainArbiter). x.broken) c.self.view_is) ∙ c.if-self.true)

pub returns-in_err-seal-clause-memory : goal.returns-in_err-seal-clause-memory
returns-in_err-seal-clause-memory c =
    let w = err_from_is_err_and c.from_residual.result c.from_residual.ensures.1 in
    let r = c.self.inside.run in
    let i = at_phase Lent c.args.self.now r c.self.inside.phase c.self.inside.broken c.self.view_is c.requires.lent c.if-self.false c.self.invariant c.keeps.ensures in
    rw w.1
    (given_up_now (AreReturned c.args.self.now c.args.jobs.items) c.args.self.now (seen r c.self.inside.phase c.self.inside.broken) (seen c.seal.new.self c.self.inside.phase true) c.self.view_is c.if-self.false refl
    (c.in_err-seal.ensures.failed).records refl
    (λ lent taken p n s. cut_off c.args.self.now r i c.args.jobs.items c.seal.new.self c.seal.ensures.beside c.self.inside.phase true c.in_err-seal.ensures.failed lent taken p s n))

pub returns-clause-memory : goal.returns-clause-memory
returns-clause-memory c = record { before = sym (ap (λ (x : PlainArbiter). x.broken) c.self.view_is) ∙ c.if-self.false; after = refl }

pub invariant_of-self-2 : goal.invariant_of-self-2
invariant_of-self-2 c =
    let i = at_phase Lent c.args.self.now c.self.inside.run c.self.inside.phase c.self.inside.broken c.self.view_is c.requires.lent c.if-self.false c.self.invariant c.keeps.ensures in
    subst (λ (f : Phase). IsSound c.seal.new.self.draw.seed (seen c.seal.new.self f false)) (sym c.phase-self-inside.ensures)
    (seal_sound c.args.self.now c.self.inside.run i c.args.jobs.items c.seal.new.self c.seal.ensures.beside c.in_ok-seal.ensures.turned (c.requires.back (ap (λ (x : PlainArbiter). x.broken) i.is)))

pub returns-clause-stands : goal.returns-clause-stands
returns-clause-stands c =
    let i = at_phase Lent c.args.self.now c.self.inside.run c.self.inside.phase c.self.inside.broken c.self.view_is c.requires.lent c.if-self.false c.self.invariant c.keeps.ensures in
    subst
    (λ (f : Phase). (lent : List Job) (taken : List Line) (p : Pair Origin) → StandsFor c.args.self.now lent taken p → AreCarriedOut c.args.self.now.floor.base (options_in c.args.self.now).budget lent c.args.jobs.items →
    StandsFor (seen c.seal.new.self f false) [] taken (after_turn (code_in c.args.self.now) p))
    (sym c.phase-self-inside.ensures)
    (seal_stands c.args.self.now c.self.inside.run i c.args.jobs.items c.seal.new.self c.seal.ensures.beside c.in_ok-seal.ensures.turned)

pub returns-clause-over : goal.returns-clause-over
returns-clause-over c =
    let i = at_phase Lent c.args.self.now c.self.inside.run c.self.inside.phase c.self.inside.broken c.self.view_is c.requires.lent c.if-self.false c.self.invariant c.keeps.ensures in
    seal_over_back c.args.self.now c.self.inside.run i c.args.jobs.items c.seal.new.self c.seal.ensures.beside c.in_ok-seal.ensures.turned (c.requires.back (ap (λ (x : PlainArbiter). x.broken) i.is))

pub returns-clause-grows : goal.returns-clause-grows
returns-clause-grows c =
    let i = at_phase Lent c.args.self.now c.self.inside.run c.self.inside.phase c.self.inside.broken c.self.view_is c.requires.lent c.if-self.false c.self.invariant c.keeps.ensures in
    λ e. seal_grows c.args.self.now c.self.inside.run i c.args.jobs.items c.seal.new.self c.seal.ensures.beside c.in_ok-seal.ensures.turned (sym c.phase-self-inside.ensures ∙ e)
