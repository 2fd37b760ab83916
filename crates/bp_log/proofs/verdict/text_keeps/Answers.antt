use Rattle.std.proofs.lemmas.Str.{is_utf8-from_IsUtf8}
use Rattle.bp_log.proofs.verdict.text_keeps.Goals as goal

pub returns : goal.returns
returns c = rw c.as_str-bytes.ensures at (is_utf8-from_IsUtf8 c.as_str-bytes.result.now c.as_str-bytes.utf8)
