use Rattle.std.proofs.Common.{ap, ◌∙◌}
use Rattle.js_meaning.specs.Calls.{calls}
use Rattle.js_meaning.specs.Meaning.{eval}
use Rattle.js_frames.specs.Places.{plain_ground, here}
use Rattle.js_meaning.specs.Forms.{argument}
use Rattle.js_frames.proofs.Steps.{means_ok}
use Rattle.js_frames.proofs.engine.Engine.combine_call.Goals as goal

pub returns : goal.returns
returns c =
    let g = here c.args.base.now c.args.self.now in
    means_ok (plain_ground c.args.base.now) _ _ _ _ c.call.result c.call.ensures.goes
    (λ s. ap (λ f. calls g (eval g) c.args.line f c.take_first-function.new.self s) c.take_first-function.ensures.value
    ∙ ap (λ vs. calls g (eval g) c.args.line (argument 0 c.args.done) vs s) c.take_first-function.ensures.rest)
