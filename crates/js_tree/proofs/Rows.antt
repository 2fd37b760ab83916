-- One more tree in a list.
use Rattle.std.proofs.Common.{◌≡◌, max, List, [], ◌∷◌, ◌++◌, map, fold, refl, arith}
use Rattle.std.proofs.lemmas.List as list
use Rattle.js_tree.specs.declared.tree.Expr.{Expr}
use Rattle.js_tree.specs.declared.tree.Field.{Field}
use Rattle.js_tree.specs.declared.tree.Declarator.{Declarator}
use Rattle.js_tree.specs.declared.tree.Stmt.{Stmt}
use Rattle.js_tree.specs.declared.ending.Ending.{Ending}
use Rattle.js_tree.specs.Plain.{PlainExpr, PlainField, PlainDeclarator, PlainStmt, exprs_of, fields_of, declarators_of, stmts_of}
use Rattle.js_tree.specs.Views.{plain_expr, plain_field, plain_declarator, plain_stmt}
use Rattle.js_tree.specs.Nesting.{nesting, deepest, deepest_field, deepest_declarator, perhaps_nesting, stmt_nesting, deepest_stmt}
use Rattle.js_tree.specs.Endings.{perhaps_ending, declarators_ending}

pub map_push : (es : List Expr) (e : Expr) → map plain_expr (es ++ e ∷ []) ≡ map plain_expr es ++ plain_expr e ∷ []
map_push = list.map_push plain_expr

pub map_push_field : (es : List Field) (e : Field) → map plain_field (es ++ e ∷ []) ≡ map plain_field es ++ plain_field e ∷ []
map_push_field = list.map_push plain_field

pub map_push_declarator : (es : List Declarator) (e : Declarator) → map plain_declarator (es ++ e ∷ []) ≡ map plain_declarator es ++ plain_declarator e ∷ []
map_push_declarator = list.map_push plain_declarator

pub map_push_stmt : (es : List Stmt) (e : Stmt) → map plain_stmt (es ++ e ∷ []) ≡ map plain_stmt es ++ plain_stmt e ∷ []
map_push_stmt = list.map_push plain_stmt

pub deepest_push : (es : List PlainExpr) (e : PlainExpr) → deepest (exprs_of (es ++ e ∷ [])) ≡ max (deepest (exprs_of es)) (nesting e)
deepest_push [] e = omega arith
deepest_push (z ∷ es) e = omega (arith, deepest_push es e)

pub deepest_push_field : (es : List PlainField) (e : PlainField) → deepest_field (fields_of (es ++ e ∷ [])) ≡ max (deepest_field (fields_of es)) (nesting e.value)
deepest_push_field [] e = omega arith
deepest_push_field (z ∷ es) e = omega (arith, deepest_push_field es e)

pub deepest_push_declarator : (es : List PlainDeclarator) (e : PlainDeclarator) → deepest_declarator (declarators_of (es ++ e ∷ [])) ≡ max (deepest_declarator (declarators_of es)) (perhaps_nesting e.value)
deepest_push_declarator [] e = omega arith
deepest_push_declarator (z ∷ es) e = omega (arith, deepest_push_declarator es e)

pub deepest_push_stmt : (es : List PlainStmt) (e : PlainStmt) → deepest_stmt (stmts_of (es ++ e ∷ [])) ≡ max (deepest_stmt (stmts_of es)) (stmt_nesting e)
deepest_push_stmt [] e = omega arith
deepest_push_stmt (z ∷ es) e = omega (arith, deepest_push_stmt es e)

fold_push : (b : Ending) (ds : List PlainDeclarator) (d : PlainDeclarator) →
    fold (λ (before : Ending) (d : PlainDeclarator). perhaps_ending d.value) b (ds ++ d ∷ []) ≡ perhaps_ending d.value
fold_push b [] d = refl
fold_push b (z ∷ ds) d = fold_push (perhaps_ending z.value) ds d

pub ending_push : (ds : List PlainDeclarator) (d : PlainDeclarator) → declarators_ending (ds ++ d ∷ []) ≡ perhaps_ending d.value
ending_push ds d = fold_push _ ds d
