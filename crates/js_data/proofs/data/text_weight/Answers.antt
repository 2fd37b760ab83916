use Rattle.std.proofs.lemmas.Str.{is_utf8-from_IsUtf8}
use Rattle.js_data.proofs.data.text_weight.Goals as goal

pub returns-clause-utf8 : goal.returns-clause-utf8
returns-clause-utf8 c = rw c.as_str.ensures at (is_utf8-from_IsUtf8 c.as_str.result.now c.as_str.utf8)
