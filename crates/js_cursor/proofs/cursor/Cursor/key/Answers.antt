use Rattle.std.proofs.Common.{◌∙◌}
use Rattle.js_cursor.proofs.Using.{key_is, key_among}
use Rattle.js_cursor.proofs.cursor.Cursor.key.Goals as goal

pub returns-in_ok-copy-in-Name : goal.returns-in_ok-copy-in-Name
returns-in_ok-copy-in-Name c = (c.in-Some.token.now, c.in-Some.ensures, key_is c.in-Some.token.now ∙ key_among _ _ _ c.in-Name.is c.in_ok-copy-in-Name.ensures)
