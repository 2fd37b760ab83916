-- Nodes, numbered in the order in which their forms end in the text, and functions in the order of their
-- first tokens.
use Rattle.std.specs.Prelude.{ℕ, Bool, List, [], ◌∷◌, is_some, if◌then◌else◌}
use Rattle.js_tree.specs.Plain as t
use Rattle.js_tree.specs.Plain.{PlainExpr, PlainForm, PlainExprs, PlainFields, PlainPerhaps, PlainDeclarators, PlainStart, PlainStmt, PlainStmtForm, PlainStmts, PlainItem}
use Rattle.js_program.specs.PlainProgram as n
use Rattle.js_names.specs.Forms.{called_builtin, value_builtin}
use Rattle.js_names.specs.Mentions.{Mention}
use Rattle.js_resolver.specs.Pieces.{Piece, none, beside, after, closed, function_piece, one_value}
use Rattle.js_resolver.specs.NodeForms.{method_of, floors_division, expr_node, declared_of, stmt_node}

-- the nodes of each form from the number b on
unfoldable mutual
  pub expr_piece : List Mention → ℕ → PlainExpr → Piece
  expr_piece ps b (t.at parens line form) = closed b line (expr_node ps form) (form_parts ps b form)

  -- those of its parts alone
  pub expr_parts : List Mention → ℕ → PlainExpr → Piece
  expr_parts ps b (t.at parens line form) = form_parts ps b form

  pub form_parts : List Mention → ℕ → PlainForm → Piece
  form_parts ps b (t.number i) = none
  form_parts ps b (t.text text) = none
  form_parts ps b (t.truth v) = none
  form_parts ps b t.null = none
  form_parts ps b (t.use_of name) = none
  form_parts ps b (t.list es) = exprs_piece ps b es
  form_parts ps b (t.fields fs) = fields_piece ps b fs
  form_parts ps b (t.member e word) = if is_some (value_builtin e word) then none else expr_piece ps b e
  form_parts ps b (t.index e i) = let x = expr_piece ps b e in beside x (expr_piece ps (after b x) i)
  form_parts ps b (t.call e es) =
      let x =
      if is_some (called_builtin e) then none
      else (if is_some (method_of e) then expr_parts ps b e else expr_piece ps b e) in
      beside x (arguments_piece ps (after b x) (floors_division (called_builtin e) es) es)
  form_parts ps b (t.unary s e) = expr_piece ps b e
  form_parts ps b (t.update s f name) = none
  form_parts ps b (t.binary op l r) =
      let x = expr_piece ps b l in beside x (expr_piece ps (after b x) r)
  form_parts ps b (t.conditional l m r) =
      let x = expr_piece ps b l in
      let y = beside x (expr_piece ps (after b x) m) in
      beside y (expr_piece ps (after b y) r)
  form_parts ps b (t.assign op name e) = expr_piece ps b e
  form_parts ps b (t.arrow_value spot names e) =
      function_piece ps spot names one_value (expr_piece ps b e)
  form_parts ps b (t.arrow_block spot names ss) =
      function_piece ps spot names n.statements (stmts_piece ps b ss)
  form_parts ps b (t.function spot names ss) =
      function_piece ps spot names n.statements (stmts_piece ps b ss)

  pub exprs_piece : List Mention → ℕ → PlainExprs → Piece
  exprs_piece ps b t.no_exprs = none
  exprs_piece ps b (t.expr_in e es) =
      let x = expr_piece ps b e in beside x (exprs_piece ps (after b x) es)

  -- the operands of a division that is rounded down are parts themselves
  pub arguments_piece : List Mention → ℕ → Bool → PlainExprs → Piece
  arguments_piece ps b opens t.no_exprs = none
  arguments_piece ps b opens (t.expr_in e es) =
      let x = if opens then expr_parts ps b e else expr_piece ps b e in
      beside x (exprs_piece ps (after b x) es)

  pub fields_piece : List Mention → ℕ → PlainFields → Piece
  fields_piece ps b t.no_fields = none
  fields_piece ps b (t.field_in key e fs) =
      let x = expr_piece ps b e in beside x (fields_piece ps (after b x) fs)

  pub perhaps_piece : List Mention → ℕ → PlainPerhaps → Piece
  perhaps_piece ps b t.absent = none
  perhaps_piece ps b (t.present e) = expr_piece ps b e

  pub declarators_piece : List Mention → ℕ → PlainDeclarators → Piece
  declarators_piece ps b t.no_declarators = none
  declarators_piece ps b (t.declarator_in name value end ds) =
      let x = perhaps_piece ps b value in beside x (declarators_piece ps (after b x) ds)

  pub start_piece : List Mention → ℕ → PlainStart → Piece
  start_piece ps b t.nothing = none
  start_piece ps b (t.declared line kind ds) =
      closed b line (λ parts. n.declaration kind (declared_of ps ds parts)) (declarators_piece ps b ds)
  start_piece ps b (t.started e) = expr_piece ps b e

  pub stmt_piece : List Mention → ℕ → PlainStmt → Piece
  stmt_piece ps b (t.on line form) = closed b line (stmt_node ps form) (stmt_parts ps b form)

  pub stmt_parts : List Mention → ℕ → PlainStmtForm → Piece
  stmt_parts ps b t.empty = none
  stmt_parts ps b (t.block ss) = stmts_piece ps b ss
  stmt_parts ps b (t.declaration kind ds) = declarators_piece ps b ds
  stmt_parts ps b (t.expression e) = expr_piece ps b e
  stmt_parts ps b (t.if_alone e s) = let x = expr_piece ps b e in beside x (stmt_piece ps (after b x) s)
  stmt_parts ps b (t.if_else e s other) =
      let x = expr_piece ps b e in
      let y = beside x (stmt_piece ps (after b x) s) in
      beside y (stmt_piece ps (after b y) other)
  stmt_parts ps b (t.while_of e s) = let x = expr_piece ps b e in beside x (stmt_piece ps (after b x) s)
  stmt_parts ps b (t.for_three start test next s) =
      let x = start_piece ps b start in
      let y = beside x (perhaps_piece ps (after b x) test) in
      let z = beside y (perhaps_piece ps (after b y) next) in
      beside z (stmt_piece ps (after b z) s)
  stmt_parts ps b (t.for_of kind name e s) =
      let x = expr_piece ps b e in beside x (stmt_piece ps (after b x) s)
  stmt_parts ps b (t.break_of spot) = none
  stmt_parts ps b (t.continue_of spot) = none
  stmt_parts ps b (t.return_nothing spot) = none
  stmt_parts ps b (t.return_of spot e) = expr_piece ps b e

  pub stmts_piece : List Mention → ℕ → PlainStmts → Piece
  stmts_piece ps b t.no_stmts = none
  stmts_piece ps b (t.stmt_in s ss) =
      let x = stmt_piece ps b s in beside x (stmts_piece ps (after b x) ss)

-- a function declaration is no node
unfoldable pub item_piece : List Mention → ℕ → PlainItem → Piece
item_piece ps b (t.statement spot s) = stmt_piece ps b s
item_piece ps b (t.function_of spot name names ss) =
    function_piece ps spot names n.statements (stmts_piece ps b ss)

unfoldable pub items_piece : List Mention → ℕ → List PlainItem → Piece
items_piece ps b [] = none
items_piece ps b (i ∷ is) = let x = item_piece ps b i in beside x (items_piece ps (after b x) is)
