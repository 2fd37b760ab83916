use Rattle.std.proofs.Common.{◌∙◌}
use Rattle.js_data.specs.Views.{plain_data}
use Rattle.js_json.proofs.Texts.{no_float, text_is}
use Rattle.js_json.proofs.writer.data_text.Goals as goal

pub returns : goal.returns
returns c =
    let d = plain_data c.args.tree.now in
    let written = rw c.in_ok-made.ensures at c.in_ok-to_string.ensures.text in
    c.new.ensures ∙ written (no_float d c.requires) ∙ text_is d c.requires
