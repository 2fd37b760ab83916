-- Each loop of the readers is its first iteration, and then the loop.
use Rattle.std.proofs.Common.{◌≡◌, ℕ, List, [], ◌∷◌, Some, None, false, refl}
use Rattle.js_lexer.specs.declared.token.Token.{Token}
use Rattle.js_tree.specs.declared.tree.Name.{Name}
use Rattle.js_tree.specs.declared.tree.DeclareKind.{DeclareKind}
use Rattle.js_tree.specs.Plain.{PlainExpr, PlainField, PlainDeclarator, PlainStmt, PlainItem}
use Rattle.js_lexer.specs.declared.sort.Sort.{Sort}
use Rattle.js_grammar.specs.Sorts.{sort, named}
use Rattle.js_grammar.specs.Arrows.{starts_arrow}
use Rattle.js_grammar.specs.Tokens.{starts}
use Rattle.js_cursor.specs.Passed.{first}
use Rattle.js_grammar.specs.Reading as read
use Rattle.js_grammar.specs.Expressions as exprs
use Rattle.js_grammar.specs.Statements as stmts
use Rattle.js_grammar.specs.Reading.{next_iteration, run}
use Rattle.js_grammar.specs.Reader.{readers}
use Rattle.js_grammar.proofs.Steps.{run-iteration}
use Rattle.js_grammar.proofs.Complete.{params_step-short, elements_step-short, fields_step-short, declarators_step-short, statements_step-short, items_step-short, called_step-short, operated_step-short, paren-unnamed}

pub params_iteration : (xs : List Name) (ts : List Token) → run read.params_step xs ts ≡ next_iteration (run read.params_step) (read.params_step xs ts)
params_iteration = run-iteration read.params_step params_step-short

pub elements_iteration : (n : ℕ) (c : Sort) (es : List PlainExpr) (ts : List Token) →
    run (exprs.elements_step n (readers n) c) es ts ≡ next_iteration (run (exprs.elements_step n (readers n) c)) (exprs.elements_step n (readers n) c es ts)
elements_iteration n c = run-iteration (exprs.elements_step n (readers n) c) (elements_step-short n c)

pub fields_iteration : (n : ℕ) (fs : List PlainField) (ts : List Token) →
    run (exprs.fields_step n (readers n)) fs ts ≡ next_iteration (run (exprs.fields_step n (readers n))) (exprs.fields_step n (readers n) fs ts)
fields_iteration n = run-iteration (exprs.fields_step n (readers n)) (fields_step-short n)

pub declarators_iteration : (n : ℕ) (k : DeclareKind) (ds : List PlainDeclarator) (ts : List Token) →
    run (exprs.declarators_step n (readers n) k) ds ts ≡ next_iteration (run (exprs.declarators_step n (readers n) k)) (exprs.declarators_step n (readers n) k ds ts)
declarators_iteration n k = run-iteration (exprs.declarators_step n (readers n) k) (declarators_step-short n k)

pub statements_iteration : (n : ℕ) (ss : List PlainStmt) (ts : List Token) →
    run (exprs.statements_step n (readers n)) ss ts ≡ next_iteration (run (exprs.statements_step n (readers n))) (exprs.statements_step n (readers n) ss ts)
statements_iteration n = run-iteration (exprs.statements_step n (readers n)) (statements_step-short n)

pub items_iteration : (n : ℕ) (is : List PlainItem) (ts : List Token) →
    run (stmts.items_step n (readers n)) is ts ≡ next_iteration (run (stmts.items_step n (readers n))) (stmts.items_step n (readers n) is ts)
items_iteration n = run-iteration (stmts.items_step n (readers n)) (items_step-short n)

pub called_iteration : (n line : ℕ) (e : PlainExpr) (ts : List Token) →
    run (exprs.called_step n (readers n) line) e ts ≡ next_iteration (run (exprs.called_step n (readers n) line)) (exprs.called_step n (readers n) line e ts)
called_iteration n line = run-iteration (exprs.called_step n (readers n) line) (called_step-short n line)

pub operated_iteration : (n line k : ℕ) (e : PlainExpr) (ts : List Token) →
    run (exprs.operated_step n (readers n) line k) e ts ≡ next_iteration (run (exprs.operated_step n (readers n) line k)) (exprs.operated_step n (readers n) line k e ts)
operated_iteration n line k = run-iteration (exprs.operated_step n (readers n) line k) (operated_step-short n line k)

-- what nothing follows

pub next_param_none : (xs : List Name) (ts : List Token) → starts Sort.RightParen ts ≡ false → starts Sort.Comma ts ≡ false → read.next_param xs ts ≡ None
next_param_none xs [] h k = refl
next_param_none xs (t ∷ ts) h k = rw (h, k) refl

pub no_arrow : (xs : List Name) (ts : List Token) → starts_arrow ts ≡ false → read.arrow_after xs ts ≡ None
no_arrow xs ts h = rw h refl

pub header_paren : (t : Token) (ts : List Token) → sort t ≡ Sort.LeftParen → read.header (t ∷ ts) ≡ read.and_then (read.params ts) read.arrow_after
header_paren t ts h = rw (paren-unnamed t h, h) refl

pub header_name : (t : Token) (ts : List Token) (x : Name) → named t ≡ Some x → read.header (t ∷ ts) ≡ read.arrow_after (x ∷ []) ts
header_name t ts x h = rw h refl

pub header_none : (ts : List Token) → starts Sort.LeftParen ts ≡ false → first named ts ≡ None → read.header ts ≡ None
header_none [] h k = refl
header_none (t ∷ ts) h k = rw (k, h) refl
