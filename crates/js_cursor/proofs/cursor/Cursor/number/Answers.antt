use Rattle.std.proofs.Common.{◌∙◌, ap}
use Rattle.js_grammar.specs.Sorts.{kind_number}
use Rattle.js_cursor.proofs.Using.{numbered_is}
use Rattle.js_cursor.proofs.cursor.Cursor.number.Goals as goal

pub returns-in-Number : goal.returns-in-Number
returns-in-Number c = (c.in-Some.token.now, c.in-Some.ensures, numbered_is c.in-Some.token.now ∙ ap kind_number c.in-Number.is)
