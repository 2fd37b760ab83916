use Rattle.std.proofs.Common.{map, refl, sym, ap, subst, ◌∙◌}
use Rattle.js_value.specs.Views.{plain_value}
use Rattle.js_meaning.specs.Calls.{calls}
use Rattle.js_meaning.specs.Meaning.{eval}
use Rattle.js_meaning.specs.Bodies.{function}
use Rattle.js_frames.specs.Places.{Place, plain_ground, here}
use Rattle.js_frames.specs.Fits.{StackFits}
use Rattle.js_frames.specs.Runs.{IsLost, untaken}
use Rattle.js_frames.proofs.Steps.{means}
use Rattle.js_frames.proofs.Pauses.{started, of_program_started, on_err}
use Rattle.js_frames.proofs.machine.Machine.restart.Goals as goal

pub call-requires : goal.call-requires
unfolding StackFits
call-requires c = subst (λ (q : Place). StackFits (let b = c.args.base.now in b.program) q.stack) (sym (c.no_values-values.ensures.same ∙ c.begin_anew.ensures)) tt

pub returns-clause-program : goal.returns-clause-program
returns-clause-program c = let l = c.in_ok-step.ensures.goes in of_program_started (let b = c.args.base.now in b.program) c.call.new.self c.in_ok-step.step l.stack_fits l.step_fits

pub returns-clause-effects : goal.returns-clause-effects
unfolding untaken
returns-clause-effects c = c.in_ok-step.ensures.effects ∙ ap (λ (q : Place). q.effects) (c.no_values-values.ensures.same ∙ c.begin_anew.ensures)

pub returns-clause-stands : goal.returns-clause-stands
returns-clause-stands c =
    let base = plain_ground c.args.base.now in
    let g = here c.args.base.now c.no_values-values.new.self in
    started base c.args.budget (function c.args.mode (plain_value c.args.callee.now) (map plain_value c.args.args.now)) c.no_values-values.new.self c.call.new.self c.in_ok-step.step (c.no_values-values.ensures.same ∙ c.begin_anew.ensures)
    (means base _ _ _ _ _ (λ s. ap (λ f. calls g (eval g) 0 f c.push_copies.new.made s) c.in_ok-function.ensures ∙ ap (λ vs. calls g (eval g) 0 (plain_value c.args.callee.now) vs s) c.in_ok-push_copies.ensures) c.in_ok-step.ensures.goes)

pub returns-in_err-push_copies-clause-lost : goal.returns-in_err-push_copies-clause-lost
unfolding IsLost
returns-in_err-push_copies-clause-lost c = on_err _ refl

pub returns-in_err-function-clause-lost : goal.returns-in_err-function-clause-lost
unfolding IsLost
returns-in_err-function-clause-lost c = on_err _ refl

pub returns-in_err-step-clause-lost : goal.returns-in_err-step-clause-lost
unfolding IsLost
returns-in_err-step-clause-lost c = on_err _ refl
