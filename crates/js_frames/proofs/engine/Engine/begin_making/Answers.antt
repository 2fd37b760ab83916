use Rattle.std.proofs.Common.{ap}
use Rattle.std.specs.Prelude.{slice_get}
use Rattle.js_frames.specs.Places.{plain_ground, here}
use Rattle.js_frames.specs.Frames.{parts_from}
use Rattle.js_frames.proofs.Steps.{means_ok}
use Rattle.js_frames.proofs.engine.Engine.begin_making.Goals as goal

pub returns : goal.returns
returns c = means_ok (plain_ground c.args.base.now) _ _ _ _ c.go_on_parts.result c.go_on_parts.ensures (λ s. ap (λ vs. parts_from (here c.args.base.now c.args.self.now) (slice_get (let b = c.args.base.now in let p = b.program in p.nodes) c.args.number) vs s) c.in_ok-none.ensures)

pub go_on_parts-requires : goal.go_on_parts-requires
go_on_parts-requires c = c.requires
