use Rattle.std.proofs.Common.{ap, ◌∙◌}
use Rattle.js_value.specs.Views.{plain_value}
use Rattle.js_meaning.specs.Forms.{argument, asserted}
use Rattle.js_frames.proofs.Lists.{argument_taken}
use Rattle.js_frames.proofs.BecomesLemmas.{becomes_as}
use Rattle.js_frames.proofs.forms.asserted.Goals as goal

pub returns : goal.returns
returns c = becomes_as _ _ c.assert_with.result (λ g s.
    ap (λ x. asserted c.args.line x (plain_value c.take-text.result) s) (c.take.ensures.value ∙ ap (argument 0) c.take-text.ensures.rest ∙ argument_taken c.args.args.now)
    ∙ ap (λ y. asserted c.args.line (argument 0 c.args.args.now) y s) c.take-text.ensures.value) c.assert_with.ensures
