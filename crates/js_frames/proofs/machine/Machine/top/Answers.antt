use Rattle.std.proofs.Common.{Some, map, sym, ap, subst, ◌∙◌}
use Rattle.js_program.specs.PlainProgram.{PlainProgram}
use Rattle.js_meaning.specs.Variables.{constant_start}
use Rattle.js_meaning.specs.Bodies.{the_top}
use Rattle.js_program.specs.declared.builtin.Mode.TheVariants.{Top}
use Rattle.js_frames.specs.Places.{Place, plain_ground, fresh}
use Rattle.js_frames.specs.Fits.{StackFits}
use Rattle.js_frames.specs.Runs.{untaken}
use Rattle.js_frames.proofs.Pauses.{started, of_program_started}
use Rattle.js_frames.proofs.machine.Machine.top.Goals as goal

pub begin_top-requires : goal.begin_top-requires
unfolding StackFits
begin_top-requires c = subst (λ (q : Place). StackFits (let b = c.args.base.now in b.program) q.stack) (sym c.new-engine.ensures) tt

pub returns-clause-program : goal.returns-clause-program
returns-clause-program c = let l = c.in_ok-step.ensures.goes in of_program_started (let b = c.args.base.now in b.program) c.begin_top.new.self c.in_ok-step.step l.stack_fits l.step_fits

pub returns-clause-effects : goal.returns-clause-effects
unfolding untaken
returns-clause-effects c = c.in_ok-step.ensures.effects ∙ ap (λ (q : Place). q.effects) c.new-engine.ensures

pub returns-clause-stands : goal.returns-clause-stands
returns-clause-stands c =
    started (plain_ground c.args.base.now) c.args.budget the_top c.new-engine.result c.begin_top.new.self c.in_ok-step.step
    (c.new-engine.ensures ∙ ap (λ cs. fresh Top c.args.budget (Some cs)) c.in_ok-constants.ensures ∙ ap (λ (q : PlainProgram). fresh Top c.args.budget (Some (map constant_start q.constants))) c.program.ensures) c.in_ok-step.ensures.goes
