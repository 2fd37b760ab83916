use Rattle.std.proofs.Common.{◌∙◌, sym}
use Rattle.js_cursor.proofs.cursor.Cursor.step.Goals as goal

pub returns : goal.returns
returns c = (c.in-Some.token.now, c.in-Some.ensures, sym c.step_at.ensures ∙ c.in-Some-step_at.is)
