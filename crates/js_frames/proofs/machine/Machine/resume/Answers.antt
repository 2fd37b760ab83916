use Rattle.std.proofs.Common.{◌++◌, ◌∷◌, [], Some, ap, subst, sym}
use Rattle.std.specs.Arc.{arc_value}
use Rattle.js_frames.specs.declared.step.Step.{Step}
use Rattle.js_frames.specs.Places.{Place}
use Rattle.js_frames.specs.Runs.{IsOfProgram, Stands, untaken}
use Rattle.js_frames.proofs.Pauses.{resumed, of_program_resumed}
use Rattle.js_frames.proofs.machine.Machine.resume.Goals as goal

pub returns-clause-program : goal.returns-clause-program
returns-clause-program c = λ program h.
    subst (λ (s : Step). IsOfProgram program (record { engine = c.refill.new.self; pending = Some s })) (sym c.give.ensures)
    (of_program_resumed c.args.self.now c.refill.new.self c.args.event c.requires c.refill.ensures program h)

pub returns-clause-effects : goal.returns-clause-effects
unfolding untaken
returns-clause-effects c = ap (λ (q : Place). q.effects) c.refill.ensures

pub returns-clause-stands : goal.returns-clause-stands
returns-clause-stands c = λ base budget o replies begun taken h.
    subst (λ (s : Step). Stands base budget o (replies ++ arc_value c.args.event ∷ []) 0 taken (record { engine = c.refill.new.self; pending = Some s })) (sym c.give.ensures)
    (resumed c.args.self.now c.refill.new.self c.args.event c.requires c.refill.ensures base budget o replies begun taken h)
