-- How deep a tree is nested.
use Rattle.std.specs.Prelude.{ℕ, suc, ◌+◌, ◌-◌, max, Bool, true, false, ◌&&◌, ◌||◌, List, [], ◌∷◌, codes, if◌then◌else◌}
use Rattle.std.specs.Str.{bytes_eq}
use Rattle.js_tree.specs.Plain.{PlainExpr, at, PlainForm, number, text, truth, null, use_of, list, fields, member, index, call, unary, update, binary, conditional, assign, arrow_value, arrow_block, function, PlainExprs, no_exprs, expr_in, PlainFields, no_fields, field_in, PlainPerhaps, absent, present, PlainDeclarators, no_declarators, declarator_in, PlainStart, nothing, declared, started, PlainStmt, on, PlainStmtForm, empty, block, declaration, expression, if_alone, if_else, while_of, for_three, for_of, break_of, continue_of, return_nothing, return_of, PlainStmts, no_stmts, stmt_in, PlainItem, statement, function_of}

-- the name is that of an object whose members are forms of the language
abbrev pub is_object : List ℕ → Bool
is_object name = bytes_eq name (codes "bp") || bytes_eq name (codes "Math")

abbrev pub is_log_of : PlainExpr → List ℕ → Bool
is_log_of (at p line (use_of name)) word =
    bytes_eq name.text (codes "bp") && bytes_eq word (codes "log")
is_log_of _ word = false

-- `bp`, `Math` or `bp.log`: before a dot it is a part of a form's name, and no level of its own
abbrev pub is_object_name : PlainExpr → Bool
is_object_name (at p line (use_of name)) = is_object name.text
is_object_name (at p line (member e word)) = is_log_of e word
is_object_name _ = false

-- a member; called, it is not a level of its own
abbrev pub is_member : PlainExpr → Bool
is_member (at p line (member e word)) = true
is_member _ = false

-- the nesting without the last level
abbrev pub one_less_if : Bool → ℕ → ℕ
one_less_if b n = if b then n - 1 else n

-- each expression and statement is one level under the one that it is a part of, and one more for each
-- pair of parentheses round it
abbrev mutual
  pub nesting : PlainExpr → ℕ
  nesting (at parens line form) = parens + suc (inside form)

  pub inside : PlainForm → ℕ
  inside (number n) = 0
  inside (text s) = 0
  inside (truth b) = 0
  inside null = 0
  inside (use_of name) = 0
  inside (list es) = deepest es
  inside (fields fs) = deepest_field fs
  inside (member e word) = one_less_if (is_object_name e) (nesting e)
  inside (index e i) = max (nesting e) (nesting i)
  inside (call e es) = max (one_less_if (is_member e) (nesting e)) (deepest es)
  inside (unary s e) = nesting e
  inside (update s f name) = 0
  inside (binary op a b) = max (nesting a) (nesting b)
  inside (conditional a b c) = max (nesting a) (max (nesting b) (nesting c))
  inside (assign op name e) = nesting e
  inside (arrow_value spot names e) = nesting e
  inside (arrow_block spot names ss) = deepest_stmt ss
  inside (function spot names ss) = deepest_stmt ss

  pub deepest : PlainExprs → ℕ
  deepest no_exprs = 0
  deepest (expr_in e es) = max (nesting e) (deepest es)

  pub deepest_field : PlainFields → ℕ
  deepest_field no_fields = 0
  deepest_field (field_in key e fs) = max (nesting e) (deepest_field fs)

  pub perhaps_nesting : PlainPerhaps → ℕ
  perhaps_nesting absent = 0
  perhaps_nesting (present e) = nesting e

  pub deepest_declarator : PlainDeclarators → ℕ
  deepest_declarator no_declarators = 0
  deepest_declarator (declarator_in name value end ds) =
      max (perhaps_nesting value) (deepest_declarator ds)

  -- a declaration in the head of a `for` is a level
  pub start_nesting : PlainStart → ℕ
  start_nesting nothing = 0
  start_nesting (declared line kind ds) = suc (deepest_declarator ds)
  start_nesting (started e) = nesting e

  pub stmt_nesting : PlainStmt → ℕ
  stmt_nesting (on line form) = suc (inside_stmt form)

  pub inside_stmt : PlainStmtForm → ℕ
  inside_stmt empty = 0
  inside_stmt (block ss) = deepest_stmt ss
  inside_stmt (declaration kind ds) = deepest_declarator ds
  inside_stmt (expression e) = nesting e
  inside_stmt (if_alone e s) = max (nesting e) (stmt_nesting s)
  inside_stmt (if_else e s other) = max (nesting e) (max (stmt_nesting s) (stmt_nesting other))
  inside_stmt (while_of e s) = max (nesting e) (stmt_nesting s)
  inside_stmt (for_three start test next s) =
      max (start_nesting start)
      (max (perhaps_nesting test) (max (perhaps_nesting next) (stmt_nesting s)))
  inside_stmt (for_of kind name e s) = max (nesting e) (stmt_nesting s)
  inside_stmt (break_of spot) = 0
  inside_stmt (continue_of spot) = 0
  inside_stmt (return_nothing spot) = 0
  inside_stmt (return_of spot e) = nesting e

  pub deepest_stmt : PlainStmts → ℕ
  deepest_stmt no_stmts = 0
  deepest_stmt (stmt_in s ss) = max (stmt_nesting s) (deepest_stmt ss)

-- a function declaration is a level, and its statements are one under it
abbrev pub item_nesting : PlainItem → ℕ
item_nesting (statement spot s) = stmt_nesting s
item_nesting (function_of spot name names ss) = suc (deepest_stmt ss)

abbrev pub deepest_item : List PlainItem → ℕ
deepest_item [] = 0
deepest_item (i ∷ is) = max (item_nesting i) (deepest_item is)
