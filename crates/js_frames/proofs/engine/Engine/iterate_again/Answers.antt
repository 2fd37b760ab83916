use Rattle.std.proofs.Common.{sym, ap}
use Rattle.js_frames.specs.Places.{plain_ground, here}
use Rattle.js_frames.specs.Frames.{again}
use Rattle.js_frames.proofs.Steps.{means_ok}
use Rattle.js_frames.proofs.engine.Engine.iterate_again.Goals as goal

pub returns-in-OfLoop : goal.returns-in-OfLoop
returns-in-OfLoop c = means_ok (plain_ground c.args.base.now) _ _ _ _ c.iterated.result c.iterated.ensures (λ s. ap (λ t. again (here c.args.base.now c.args.self.now) t s) (sym c.in-OfLoop.is))

pub returns-in-OfItems : goal.returns-in-OfItems
unfolding again
returns-in-OfItems c = means_ok (plain_ground c.args.base.now) _ _ _ _ c.each.result c.each.ensures (λ s. ap (λ t. again (here c.args.base.now c.args.self.now) t s) (sym c.in-OfItems.is))
