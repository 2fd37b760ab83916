use Rattle.std.proofs.Common.{◌∙◌, ap, refl}
use Rattle.js_data.specs.JsonText.{quoted_text}
use Rattle.js_json.proofs.Escapes.{quoted_is}
use Rattle.js_json.proofs.writer.quoted.Goals as goal

pub returns : goal.returns
returns c =
    let text = rw c.in_ok-made.ensures at c.in_ok-to_string.ensures.text in
    c.new.ensures ∙ text refl ∙ quoted_is c.as_str.result.now ∙ ap quoted_text c.as_str.ensures
