use Rattle.std.proofs.Common.{ap, ◌∙◌}
use Rattle.js_meaning.specs.Calls.{calls_method}
use Rattle.js_meaning.specs.Meaning.{eval}
use Rattle.js_frames.specs.Places.{plain_ground, here}
use Rattle.js_meaning.specs.Forms.{argument}
use Rattle.js_frames.proofs.Steps.{means_ok}
use Rattle.js_frames.proofs.engine.Engine.combine_method.Goals as goal

pub returns : goal.returns
returns c =
    let g = here c.args.base.now c.args.self.now in
    means_ok (plain_ground c.args.base.now) _ _ _ _ c.call_method.result c.call_method.ensures
    (λ s. ap (λ f. calls_method g (eval g) c.args.line c.args.word.now f c.take_first-on.new.self s) c.take_first-on.ensures.value
    ∙ ap (λ vs. calls_method g (eval g) c.args.line c.args.word.now (argument 0 c.args.done) vs s) c.take_first-on.ensures.rest)
