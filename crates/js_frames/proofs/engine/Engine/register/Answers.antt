use Rattle.std.proofs.Common.{ap, ◌∙◌}
use Rattle.js_meaning.specs.Forms.{argument, registers_thread}
use Rattle.js_frames.specs.Places.{plain_ground}
use Rattle.js_value.specs.Views.{plain_value}
use Rattle.js_frames.proofs.Lists.{argument_taken}
use Rattle.js_frames.proofs.Steps.{means_ok}
use Rattle.js_frames.proofs.engine.Engine.register.Goals as goal

pub returns : goal.returns
returns c = means_ok (plain_ground c.args.base.now) _ _ _ _ c.register_with.result c.register_with.ensures
    (λ s. ap (λ x. registers_thread c.args.line x (plain_value c.take-function.result) s) (c.take-name.ensures.value ∙ ap (argument 0) c.take-function.ensures.rest ∙ argument_taken c.args.args.now)
    ∙ ap (λ x. registers_thread c.args.line (argument 0 c.args.args.now) x s) c.take-function.ensures.value)

pub register_with-requires : goal.register_with-requires
register_with-requires c = c.requires
