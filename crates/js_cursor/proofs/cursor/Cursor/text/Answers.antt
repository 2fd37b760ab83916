use Rattle.std.proofs.Common.{◌∙◌, ap, sym, Some}
use Rattle.js_grammar.specs.Sorts.{kind_text}
use Rattle.js_cursor.proofs.Using.{quoted_is}
use Rattle.js_cursor.proofs.cursor.Cursor.text.Goals as goal

pub returns-in_ok-copy-in-Text : goal.returns-in_ok-copy-in-Text
returns-in_ok-copy-in-Text c = (c.in-Some.token.now, c.in-Some.ensures, quoted_is c.in-Some.token.now ∙ (ap kind_text c.in-Text.is ∙ ap Some (sym c.in_ok-copy-in-Text.ensures)))
