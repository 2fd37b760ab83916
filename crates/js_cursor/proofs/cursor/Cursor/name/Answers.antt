use Rattle.std.proofs.Common.{◌∙◌, ap}
use Rattle.js_grammar.specs.Sorts.{kind_name, name_at, spot}
use Rattle.js_cursor.proofs.Using.{named_is, name_same}
use Rattle.js_cursor.proofs.cursor.Cursor.name.Goals as goal

pub returns-in_ok-copy-in-Name : goal.returns-in_ok-copy-in-Name
returns-in_ok-copy-in-Name c = (
  c.in-Some.token.now,
  c.in-Some.ensures,
  named_is c.in-Some.token.now ∙ (ap (λ k. name_at (kind_name k) (spot c.in-Some.token.now)) c.in-Name.is ∙
      name_same c.in-Name.text c.in_ok-copy-in-Name.field-0 (spot c.in-Some.token.now) c.spot_of.result c.in_ok-copy-in-Name.ensures c.spot_of.ensures),
)
