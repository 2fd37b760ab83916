-- What the last part of a statement ends in.
use Rattle.std.specs.Prelude.{List, fold}
use Rattle.js_tree.specs.declared.ending.Ending.{Ending}
use Rattle.js_tree.specs.declared.ending.Ending.TheVariants.{Value, Update, Closed}
use Rattle.js_tree.specs.declared.tree.Fix.{Fix}
use Rattle.js_tree.specs.declared.tree.Fix.TheVariants.{Before, After}
use Rattle.js_tree.specs.Plain.{PlainExpr, at, PlainForm, unary, update, binary, conditional, assign, arrow_value, arrow_block, PlainPerhaps, absent, present, PlainDeclarator}

abbrev pub update_ending : Fix → Ending
update_ending Before = Value
update_ending After = Update

-- by its last part
abbrev mutual
  pub ending : PlainExpr → Ending
  ending (at parens line form) = form_ending form

  pub form_ending : PlainForm → Ending
  form_ending (unary s e) = ending e
  form_ending (update s f name) = update_ending f
  form_ending (binary op a b) = ending b
  form_ending (conditional a b c) = ending c
  form_ending (assign op name e) = ending e
  form_ending (arrow_value spot names e) = ending e
  form_ending (arrow_block spot names ss) = Closed
  form_ending _ = Value

-- a declarator without a value is closed
abbrev pub perhaps_ending : PlainPerhaps → Ending
perhaps_ending absent = Closed
perhaps_ending (present e) = ending e

-- that of the last one
abbrev pub declarators_ending : List PlainDeclarator → Ending
declarators_ending ds =
    fold (λ (before : Ending) (d : PlainDeclarator). perhaps_ending d.value) Closed ds
