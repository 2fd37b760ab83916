use Rattle.std.proofs.Common.{◌≡◌, None, Some, sym, ◌∙◌, subst}
use Rattle.js_program.specs.PlainProgram.{PlainProgram}
use Rattle.js_frames.specs.declared.machine.Machine.{Machine}
use Rattle.js_frames.specs.Places.{plain_ground}
use Rattle.js_frames.specs.Fits.{StepFits}
use Rattle.js_frames.specs.Runs.{IsOfProgram, IsLost, Runs}
use Rattle.js_frames.proofs.Pauses.{runs_on, asks_at, on_err}
use Rattle.js_frames.proofs.machine.Machine.run.Goals as goal

pub advance-requires-clause-step : goal.advance-requires-clause-step
unfolding IsOfProgram
advance-requires-clause-step c = (c.requires c.in-Some.step (sym c.in-Some.ensures.value)).1

pub advance-requires-clause-fits : goal.advance-requires-clause-fits
unfolding IsOfProgram
advance-requires-clause-fits c = (c.requires c.in-Some.step (sym c.in-Some.ensures.value)).0

pub returns-clause-program : goal.returns-clause-program
unfolding IsOfProgram
returns-clause-program c = λ q e.
    let same : c.in_ok-last.last ≡ q = cc in
    let r = c.in_ok-last.ensures.1 in
    (r.ran.stack_fits, subst (StepFits (let b = c.args.base.now in b.program)) same r.ran.step_fits)

pub returns-clause-stands : goal.returns-clause-stands
returns-clause-stands c = λ budget o replies begun taken h.
    subst (λ pause. Runs (plain_ground c.args.base.now) budget o replies begun taken c.args.nodes pause (record { engine = c.advance.new.self; pending = Some c.in_ok-last.last })) (sym c.in_ok-pause.ensures)
    (runs_on (plain_ground c.args.base.now) c.args.self.now c.advance.new.self c.in-Some.step c.in_ok-last.last c.args.nodes c.in_ok-last.ensures.0 (sym c.in-Some.ensures.value) c.in_ok-last.ensures.1 budget o replies begun taken h)

pub returns-clause-at_sync : goal.returns-clause-at_sync
returns-clause-at_sync c = asks_at c.advance.new.self c.in_ok-last.last c.in_ok-pause.pause c.in_ok-pause.ensures

nothing_next : (program : PlainProgram) (m : Machine) → m.pending ≡ None → IsOfProgram program m
unfolding IsOfProgram
nothing_next program m e = λ next is. let h : None ≡ Some next = sym e ∙ is in cc

pub returns-in_default-clause-lost : goal.returns-in_default-clause-lost
unfolding IsLost
returns-in_default-clause-lost c = c.take.ensures.after

pub returns-in_err-last-clause-lost : goal.returns-in_err-last-clause-lost
unfolding IsLost
returns-in_err-last-clause-lost c = on_err _ c.take.ensures.after

pub returns-in_err-last-clause-program : goal.returns-in_err-last-clause-program
returns-in_err-last-clause-program c = nothing_next _ _ c.take.ensures.after

pub returns-in_err-pause-clause-lost : goal.returns-in_err-pause-clause-lost
unfolding IsLost
returns-in_err-pause-clause-lost c = on_err _ c.take.ensures.after

pub returns-in_err-pause-clause-program : goal.returns-in_err-pause-clause-program
returns-in_err-pause-clause-program c = nothing_next _ _ c.take.ensures.after

pub returns-clause-stays_lost : goal.returns-clause-stays_lost
unfolding IsLost
returns-clause-stays_lost c = λ lost. let h : Some c.in-Some.step ≡ None = c.in-Some.ensures.value ∙ lost in cc
