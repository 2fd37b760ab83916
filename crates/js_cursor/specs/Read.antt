-- What a reader answers: the reading gives what is found and the tokens after it; or nothing where there
-- is no tree.
use Rattle.std.specs.Prelude.{◌≡◌, ℕ, ◌+◌, ◌≤◌, List, length, Option, Some, None, Result, Ok, Err}
use Rattle.js_lexer.specs.declared.token.Token.{Token}
use Rattle.js_tree.specs.declared.tree.Expr.{Expr}
use Rattle.js_tree.specs.declared.tree.Stmt.{Stmt}
use Rattle.js_tree.specs.Plain.{PlainExpr, PlainStmt}
use Rattle.js_tree.specs.Views.{plain_expr, plain_stmt}
use Rattle.js_tree.specs.Nesting.{nesting, stmt_nesting}
use Rattle.js_grammar.specs.Reading as read
use Rattle.js_grammar.specs.Reading.{Iteration, again}
use Rattle.js_cursor.specs.declared.cursor.Cursor.{Cursor}
use Rattle.js_cursor.specs.declared.stop.Stop.{Stop}
use Rattle.js_cursor.specs.declared.stop.Stop.TheVariants.{NoTree, Memory}
use Rattle.js_cursor.specs.declared.found.Found.{Found}

-- the tokens that are left
abbrev pub left : Cursor → List Token
left cursor = cursor.rest.now

-- a tree by its view, with the nesting of that, which is within the limit; at least this many tokens are taken
abbrev pub IsRead : {A B : Type 0} → (B → A) → (A → ℕ) → (List Token → read.Found A) → ℕ → ℕ → Cursor →
    Cursor → Result (Found B) Stop → Type 0
IsRead view deep reads limit takes old new (Ok found) = record {
  read : reads (left old) ≡ Some (view found.tree, left new);
  measured : found.depth ≡ deep (view found.tree);
  within : found.depth ≤ limit;
  taken : takes + length new.rest.now ≤ length old.rest.now;
}
IsRead view deep reads limit takes old new (Err (NoTree n)) = reads (left old) ≡ None
IsRead view deep reads limit takes old new (Err Memory) = Unit {0}

abbrev pub IsExpr : (List Token → read.Found PlainExpr) → ℕ → Cursor → Cursor →
    Result (Found Expr) Stop → Type 0
IsExpr reads limit = IsRead plain_expr nesting reads limit 1

abbrev pub IsStmt : (List Token → read.Found PlainStmt) → ℕ → Cursor → Cursor →
    Result (Found Stmt) Stop → Type 0
IsStmt reads limit = IsRead plain_stmt stmt_nesting reads limit 1

-- the same of one iteration of a chain
abbrev pub IsIteration : (List Token → Option (Iteration PlainExpr)) → ℕ → Cursor → Cursor →
    Result (Found Expr) Stop → Type 0
IsIteration iterations limit old new (Ok found) = record {
  read : iterations (left old) ≡ Some (again (plain_expr found.tree) (left new));
  measured : found.depth ≡ nesting (plain_expr found.tree);
  within : found.depth ≤ limit;
  taken : 1 + length new.rest.now ≤ length old.rest.now;
}
IsIteration iterations limit old new (Err (NoTree n)) = iterations (left old) ≡ None
IsIteration iterations limit old new (Err Memory) = Unit {0}

-- the same of what has no nesting of its own
abbrev pub IsGiven : {A B : Type 0} → (B → A) → (List Token → read.Found A) → Cursor → Cursor →
    Result B Stop → Type 0
IsGiven view reads old new (Ok b) = record {
  read : reads (left old) ≡ Some (view b, left new);
  taken : 1 + length new.rest.now ≤ length old.rest.now;
}
IsGiven view reads old new (Err (NoTree n)) = reads (left old) ≡ None
IsGiven view reads old new (Err Memory) = Unit {0}
