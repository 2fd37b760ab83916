use Rattle.std.proofs.Common.{sym, ap, ◌∙◌}
use Rattle.js_meaning.specs.Variables.{in_slot}
use Rattle.js_frames.specs.Places.{plain_ground, place_of, held_at}
use Rattle.js_frames.proofs.engine.Engine.held.Goals as goal

pub returns-in-Slot : goal.returns-in-Slot
returns-in-Slot c = c.get.ensures ∙ ap (λ x. held_at (plain_ground c.args.base.now) x (place_of c.args.self.now)) (sym c.in-Slot.is)

pub returns-in-Constant : goal.returns-in-Constant
returns-in-Constant c = c.get-in-Constant.ensures ∙ ap (in_slot c.in-Constant.number) c.constants.ensures ∙ ap (λ x. held_at (plain_ground c.args.base.now) x (place_of c.args.self.now)) (sym c.in-Constant.is)
