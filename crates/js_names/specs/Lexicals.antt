-- Trees in which each `let` and `const` stands in a list of statements or in the head of a `for`, as in all
-- that tokens spell.
use Rattle.std.specs.Prelude.{◌≡◌, Bool, true, false, List, [], ◌∷◌}
use Rattle.js_tree.specs.declared.tree.DeclareKind.TheVariants.{Const, Let}
use Rattle.js_tree.specs.Plain as t
use Rattle.js_tree.specs.Plain.{PlainExpr, PlainForm, PlainExprs, PlainFields, PlainPerhaps, PlainDeclarators, PlainStart, PlainStmt, PlainStmtForm, PlainStmts, PlainItem}

-- a declaration of `let` or `const`
abbrev pub is_lexical : PlainStmt → Bool
is_lexical (t.on line (t.declaration Const ds)) = true
is_lexical (t.on line (t.declaration Let ds)) = true
is_lexical _ = false

-- no such declaration is the whole body of an `if` or of a loop
abbrev mutual
  pub ScopedExpr : PlainExpr → Type 0
  ScopedExpr (t.at parens line form) = ScopedForm form

  pub ScopedForm : PlainForm → Type 0
  ScopedForm (t.list es) = ScopedExprs es
  ScopedForm (t.fields fs) = ScopedFields fs
  ScopedForm (t.member e word) = ScopedExpr e
  ScopedForm (t.index e i) = ScopedExpr e × ScopedExpr i
  ScopedForm (t.call e es) = ScopedExpr e × ScopedExprs es
  ScopedForm (t.unary s e) = ScopedExpr e
  ScopedForm (t.binary op l r) = ScopedExpr l × ScopedExpr r
  ScopedForm (t.conditional l m r) = ScopedExpr l × (ScopedExpr m × ScopedExpr r)
  ScopedForm (t.assign op name e) = ScopedExpr e
  ScopedForm (t.arrow_value spot names e) = ScopedExpr e
  ScopedForm (t.arrow_block spot names ss) = ScopedStmts ss
  ScopedForm (t.function spot names ss) = ScopedStmts ss
  ScopedForm _ = Unit {0}

  pub ScopedExprs : PlainExprs → Type 0
  ScopedExprs t.no_exprs = Unit {0}
  ScopedExprs (t.expr_in e es) = ScopedExpr e × ScopedExprs es

  pub ScopedFields : PlainFields → Type 0
  ScopedFields t.no_fields = Unit {0}
  ScopedFields (t.field_in key e fs) = ScopedExpr e × ScopedFields fs

  pub ScopedPerhaps : PlainPerhaps → Type 0
  ScopedPerhaps t.absent = Unit {0}
  ScopedPerhaps (t.present e) = ScopedExpr e

  pub ScopedDeclarators : PlainDeclarators → Type 0
  ScopedDeclarators t.no_declarators = Unit {0}
  ScopedDeclarators (t.declarator_in name value end ds) = ScopedPerhaps value × ScopedDeclarators ds

  pub ScopedStart : PlainStart → Type 0
  ScopedStart t.nothing = Unit {0}
  ScopedStart (t.declared line kind ds) = ScopedDeclarators ds
  ScopedStart (t.started e) = ScopedExpr e

  pub ScopedStmt : PlainStmt → Type 0
  ScopedStmt (t.on line form) = ScopedStmtForm form

  -- the body of an `if` or of a loop
  pub ScopedBody : PlainStmt → Type 0
  ScopedBody (t.on line form) = (is_lexical (t.on line form) ≡ false) × ScopedStmtForm form

  pub ScopedStmtForm : PlainStmtForm → Type 0
  ScopedStmtForm (t.block ss) = ScopedStmts ss
  ScopedStmtForm (t.declaration kind ds) = ScopedDeclarators ds
  ScopedStmtForm (t.expression e) = ScopedExpr e
  ScopedStmtForm (t.if_alone e s) = ScopedExpr e × ScopedBody s
  ScopedStmtForm (t.if_else e s other) = ScopedExpr e × (ScopedBody s × ScopedBody other)
  ScopedStmtForm (t.while_of e s) = ScopedExpr e × ScopedBody s
  ScopedStmtForm (t.for_three start test next s) =
      ScopedStart start × (ScopedPerhaps test × (ScopedPerhaps next × ScopedBody s))
  ScopedStmtForm (t.for_of kind name e s) = ScopedExpr e × ScopedBody s
  ScopedStmtForm (t.return_of spot e) = ScopedExpr e
  ScopedStmtForm _ = Unit {0}

  pub ScopedStmts : PlainStmts → Type 0
  ScopedStmts t.no_stmts = Unit {0}
  ScopedStmts (t.stmt_in s ss) = ScopedStmt s × ScopedStmts ss

abbrev pub ScopedItems : List PlainItem → Type 0
ScopedItems [] = Unit {0}
ScopedItems (t.statement spot s ∷ items) = ScopedStmt s × ScopedItems items
ScopedItems (t.function_of spot name names ss ∷ items) = ScopedStmts ss × ScopedItems items
