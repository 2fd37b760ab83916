use Rattle.std.proofs.Common.{sym, ap, ◌∙◌}
use Rattle.js_value.specs.Views.{plain_value}
use Rattle.js_frames.specs.Places.{place_of, put_at}
use Rattle.js_frames.proofs.engine.Engine.put.Goals as goal

pub returns-in-Slot : goal.returns-in-Slot
returns-in-Slot c = ap (λ slots. record (place_of c.args.self.now) { slots = slots }) c.set.ensures ∙ ap (λ x. put_at x (plain_value c.args.value) (place_of c.args.self.now)) (sym c.in-Slot.is)

pub returns-in-Constant : goal.returns-in-Constant
returns-in-Constant c = c.put_constant.ensures ∙ ap (λ x. put_at x (plain_value c.args.value) (place_of c.args.self.now)) (sym c.in-Constant.is)
