use Rattle.std.proofs.Common.{◌∙◌, sym}
use Rattle.js_cursor.proofs.cursor.Cursor.assign_op.Goals as goal

pub returns : goal.returns
returns c = (c.in-Some.token.now, c.in-Some.ensures, sym c.assign_at.ensures ∙ c.in-Some-assign_at.is)
