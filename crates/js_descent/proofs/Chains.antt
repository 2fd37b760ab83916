-- One iteration of a chain of operators.
use Rattle.std.proofs.Common.{◌≡◌, ℕ, ◌+◌, ◌<◌, ◌≤◌, List, ◌∷◌, Some, None, Err, ◌∙◌, refl, arith}
use Rattle.std.proofs.lemmas.Bool.{le-leb, lt-leb}
use Rattle.js_lexer.specs.declared.token.Token.{Token}
use Rattle.js_tree.specs.declared.tree.Operator.{Operator}
use Rattle.js_tree.specs.Plain as p
use Rattle.js_tree.specs.Plain.{PlainExpr, at}
use Rattle.js_tree.specs.Nesting.{nesting}
use Rattle.js_grammar.specs.Operators.{operator_at}
use Rattle.js_grammar.specs.Tokens.{line_of}
use Rattle.js_grammar.specs.Grammar.{Operators}
use Rattle.js_grammar.specs.Expressions as exprs
use Rattle.js_grammar.specs.Reading.{run}
use Rattle.js_grammar.specs.Reader.{readers}
use Rattle.js_cursor.specs.declared.cursor.Cursor.{Cursor}
use Rattle.js_cursor.specs.declared.stop.Stop.{Stop}
use Rattle.js_cursor.specs.declared.stop.Stop.TheVariants.{NoTree, Memory}
use Rattle.js_cursor.specs.Read.{left, IsExpr}
use Rattle.js_cursor.proofs.Loops.{operated_iteration}
use Rattle.js_descent.proofs.Using.{operators_next, operators_none}

-- a tree that is too deep takes no operator
pub chain_deep : (n line k : ℕ) (op : Operator) (a : PlainExpr) (t : Token) (ts : List Token) → operator_at k t ≡ Some op → n < nesting a →
    run (exprs.operated_step n (readers n) line k) a (t ∷ ts) ≡ None
chain_deep n line k op a t ts h d = operated_iteration n line k a (t ∷ ts) ∙ rw (h, lt-leb (nesting a) n d) refl

-- an operator and its operand
pub chain_more : (n line k : ℕ) (op : Operator) (a b : PlainExpr) (t : Token) (ts r : List Token) → operator_at k t ≡ Some op → nesting a ≤ n →
    (readers n).expr (Operators k) ts ≡ Some (b, r) →
    run (exprs.operated_step n (readers n) line k) a (t ∷ ts) ≡ run (exprs.operated_step n (readers n) line k) (at 0 line (p.binary op a b)) r
chain_more n line k op a b t ts r h w s = operated_iteration n line k a (t ∷ ts) ∙ rw (h, le-leb (nesting a) n w, s) refl

-- an operator without an operand
pub chain_broken : (n line k : ℕ) (op : Operator) (a : PlainExpr) (t : Token) (ts : List Token) → operator_at k t ≡ Some op → nesting a ≤ n →
    (readers n).expr (Operators k) ts ≡ None → run (exprs.operated_step n (readers n) line k) a (t ∷ ts) ≡ None
chain_broken n line k op a t ts h w s = operated_iteration n line k a (t ∷ ts) ∙ rw (h, le-leb (nesting a) n w, s) refl

-- where no operand is spelled, no chain of any level is
pub operators_missed : (n level limit most : ℕ) (old new behind : Cursor) (e : Stop) → IsExpr (exprs.signed n (readers n)) limit old new (Err e) →
    IsExpr (exprs.operators n (readers n) level) most old behind (Err e)
operators_missed n level limit most old new behind (NoTree k) i = operators_none n 0 level (left old) (omega arith) i
operators_missed n level limit most old new behind Memory i = tt

pub operators_stopped : (n k level : ℕ) (ts : List Token) (a : PlainExpr) (r : List Token) → k < level → exprs.operators n (readers n) k ts ≡ Some (a, r) →
    run (exprs.operated_step n (readers n) (line_of ts) k) a r ≡ None → exprs.operators n (readers n) level ts ≡ None
operators_stopped n k level ts a r h s i = operators_none n (k + 1) level ts (omega arith) (operators_next n k ts a r s ∙ i)
