use Rattle.std.proofs.Common.{sym}
use Rattle.js_grammar.proofs.Marks.{is-true}
use Rattle.js_cursor.proofs.cursor.Cursor.skips.Goals as goal

pub returns-in-Some : goal.returns-in-Some
returns-in-Some c = (c.in-Some.token.now, c.in-Some.ensures, is-true c.args.sort c.in-Some.token.now (sym c.if-is_sort.ensures))
