use Rattle.std.proofs.Common.{◌≡◌, ◌∙◌, refl, ap, sym, subst, false, true, [], List}
use Rattle.std.proofs.lemmas.Result.{err_from_is_err_and}
use Rattle.js_meaning.specs.Bodies.{Origin}
use Rattle.bp_log.specs.declared.trace.Line.{Line}
use Rattle.bp_run.specs.Configuration.{Configuration}
use Rattle.bp_run.specs.Settling.{Pair}
use Rattle.bp_floor.specs.declared.phase.Phase.{Phase}
use Rattle.bp_floor.specs.declared.phase.Phase.TheVariants.{Rest}
use Rattle.bp_arbiter.specs.declared.picked.Picked.{Picked}
use Rattle.bp_arbiter.specs.Arbiters.{PlainArbiter, StandsFor, Tells, Recounts, code_in, coming}
use Rattle.bp_arbiter.specs.Pick.{after_pick, picked_of, phase_after}
use Rattle.bp_arbiter.specs.Runs.{seen}
use Rattle.bp_arbiter.specs.Sound.{IsSound}
use Rattle.bp_arbiter.proofs.Told.{stands_tells, given_up_before, given_up_now}
use Rattle.bp_arbiter.proofs.Turnings.{at_phase, pick_next, pick_stands, pick_phase, pick_sound, pick_counted, pick_recorded, unheard_tells}
use Rattle.bp_arbiter.proofs.arbiter.Arbiter.pick.Goals as goal

pub returns-then-self-clause-memory : goal.returns-then-self-clause-memory
returns-then-self-clause-memory c =
    given_up_before (λ lent. lent ≡ []) c.args.self.now (sym (ap (λ (x : PlainArbiter). x.broken) c.self.view_is) ∙ c.if-self.true)

pub returns-in_err-picked-clause-memory : goal.returns-in_err-picked-clause-memory
returns-in_err-picked-clause-memory c =
    let w = err_from_is_err_and c.from_residual.result c.from_residual.ensures.1 in
    let r = c.self.inside.run in
    let i = at_phase Rest c.args.self.now r c.self.inside.phase c.self.inside.broken c.self.view_is c.requires.rest c.if-self.false c.self.invariant c.keeps.ensures in
    rw w.1
    (given_up_now (λ lent. lent ≡ []) c.args.self.now (seen r c.self.inside.phase c.self.inside.broken) (seen c.pick.new.self c.self.inside.phase true) c.self.view_is c.if-self.false refl
    (c.in_err-picked.ensures.failed).records refl
    (λ jobs taken p n s. unheard_tells c.args.self.now r c.pick.new.self i c.pick.ensures.beside c.self.inside.phase true c.in_err-picked.ensures.failed taken
    (subst (λ (x : PlainArbiter). Tells x taken) i.is (stands_tells c.args.self.now jobs taken p s))))

pub returns-clause-memory : goal.returns-clause-memory
returns-clause-memory c = record { before = sym (ap (λ (x : PlainArbiter). x.broken) c.self.view_is) ∙ c.if-self.false; after = refl }

pub invariant_of-self-2 : goal.invariant_of-self-2
invariant_of-self-2 c =
    let i = at_phase Rest c.args.self.now c.self.inside.run c.self.inside.phase c.self.inside.broken c.self.view_is c.requires.rest c.if-self.false c.self.invariant c.keeps.ensures in
    subst (λ (f : Phase). IsSound c.pick.new.self.draw.seed (seen c.pick.new.self f false)) (sym c.phase-self-inside.ensures)
    (pick_sound c.args.self.now c.self.inside.run c.pick.new.self i c.pick.ensures.beside c.in_ok-picked.ensures.comes c.pick.ensures.drawn)

pub returns-clause-picked : goal.returns-clause-picked
returns-clause-picked c =
    let i = at_phase Rest c.args.self.now c.self.inside.run c.self.inside.phase c.self.inside.broken c.self.view_is c.requires.rest c.if-self.false c.self.invariant c.keeps.ensures in
    λ d h. c.in_ok-picked.ensures.picked ∙ ap picked_of (sym (pick_next c.args.self.now c.self.inside.run c.pick.new.self i c.pick.ensures.beside d h))

pub returns-clause-recorded : goal.returns-clause-recorded
returns-clause-recorded c =
    let i = at_phase Rest c.args.self.now c.self.inside.run c.self.inside.phase c.self.inside.broken c.self.view_is c.requires.rest c.if-self.false c.self.invariant c.keeps.ensures in
    pick_recorded c.args.self.now c.self.inside.run c.pick.new.self i c.pick.ensures.beside c.in_ok-picked.ensures.comes

pub returns-clause-stands : goal.returns-clause-stands
returns-clause-stands c =
    let i = at_phase Rest c.args.self.now c.self.inside.run c.self.inside.phase c.self.inside.broken c.self.view_is c.requires.rest c.if-self.false c.self.invariant c.keeps.ensures in
    subst
    (λ (f : Phase). (taken : List Line) (p : Pair Origin) (d : Configuration Origin) → StandsFor c.args.self.now [] taken p → Recounts c.args.self.now d →
    StandsFor (seen c.pick.new.self f false) [] taken (after_pick (code_in c.args.self.now) p (coming c.args.self.now d)))
    (sym c.phase-self-inside.ensures)
    (pick_stands c.args.self.now c.self.inside.run c.pick.new.self i c.pick.ensures.beside c.in_ok-picked.ensures.comes)

pub returns-clause-phase : goal.returns-clause-phase
returns-clause-phase c =
    let i = at_phase Rest c.args.self.now c.self.inside.run c.self.inside.phase c.self.inside.broken c.self.view_is c.requires.rest c.if-self.false c.self.invariant c.keeps.ensures in
    c.phase-self-inside.ensures ∙ pick_phase c.args.self.now c.self.inside.run c.pick.new.self i c.pick.ensures.beside c.in_ok-picked.ensures.comes
    ∙ ap (λ (k : Picked). phase_after k c.pick.new.self.floor.pair.entries) (sym c.in_ok-picked.ensures.picked)

pub returns-clause-counted : goal.returns-clause-counted
returns-clause-counted c =
    let i = at_phase Rest c.args.self.now c.self.inside.run c.self.inside.phase c.self.inside.broken c.self.view_is c.requires.rest c.if-self.false c.self.invariant c.keeps.ensures in
    λ e. pick_counted c.args.self.now c.self.inside.run c.pick.new.self i c.pick.ensures.beside c.in_ok-picked.ensures.comes (sym c.in_ok-picked.ensures.picked ∙ e)
