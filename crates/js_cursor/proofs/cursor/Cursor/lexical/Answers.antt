use Rattle.std.proofs.Common.{◌∙◌, sym}
use Rattle.js_cursor.proofs.cursor.Cursor.lexical.Goals as goal

pub returns : goal.returns
returns c = (c.in-Some.token.now, c.in-Some.ensures, sym c.lexical_at.ensures ∙ c.in-Some-lexical_at.is)
