use Rattle.std.proofs.Common.{refl, ap}
use Rattle.js_frames.specs.declared.frame.Sequence.TheVariants.{Block}
use Rattle.js_frames.specs.Places.{plain_ground, place_of, here}
use Rattle.js_frames.specs.Frames.{sequence_from}
use Rattle.js_frames.proofs.Steps.{moves_ok}
use Rattle.js_frames.proofs.LoopLemmas.{state_undeclared}
use Rattle.js_frames.proofs.engine.Engine.block.Goals as goal

pub returns : goal.returns
returns c =
    let old = place_of c.args.self.now in
    moves_ok (plain_ground c.args.base.now) old (record old { slots = c.undeclare.new.self }) _ _ _ c.go_on.result refl refl refl refl
    (λ b. ap (sequence_from (here c.args.base.now c.args.self.now) (Block c.args.number) 0) (state_undeclared old c.undeclare.new.self c.args.slots.now b c.undeclare.ensures))
    c.go_on.ensures
