use Rattle.std.proofs.Common.{◌∙◌}
use Rattle.js_cursor.proofs.Using.{member_word_is, member_among}
use Rattle.js_cursor.proofs.cursor.Cursor.member.Goals as goal

pub returns-in_ok-copy-in-Name : goal.returns-in_ok-copy-in-Name
returns-in_ok-copy-in-Name c = (c.in-Some.token.now, c.in-Some.ensures, member_word_is c.in-Some.token.now ∙ member_among _ _ _ c.in-Name.is c.in_ok-copy-in-Name.ensures)
