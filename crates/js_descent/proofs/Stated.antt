-- What a reader's parts say of what it answers, where they are put together by hand.
use Rattle.std.proofs.Common.{◌≡◌, ℕ, zero, suc, ◌-◌, ◌<◌, ◌≤◌, List, [], ◌∷◌, Option, Some, None, Err, false, refl, sym, ap, subst, ◌∙◌}
use Rattle.js_lexer.specs.declared.token.Token.{Token}
use Rattle.js_tree.specs.declared.tree.DeclareKind.{DeclareKind}
use Rattle.js_tree.specs.declared.tree.Operator.{Operator}
use Rattle.js_tree.specs.Plain as p
use Rattle.js_tree.specs.Plain.{PlainExpr, PlainDeclarator, PlainPerhaps, PlainStart, PlainStmt, on, declarators_of, stmts_of}
use Rattle.js_tree.specs.Views.{plain_expr, plain_stmt}
use Rattle.js_tree.specs.Nesting.{nesting, stmt_nesting}
use Rattle.js_tree.specs.Endings.{ending}
use Rattle.js_lexer.specs.declared.sort.Sort.{Sort}
use Rattle.js_grammar.specs.Sorts.{sort, is}
use Rattle.js_grammar.specs.Operators.{operator_at}
use Rattle.js_grammar.specs.Tokens.{line_of, declares}
use Rattle.js_grammar.specs.Grammar.{Operators, Assignment}
use Rattle.js_grammar.specs.Reading.{run, after, ended_rest}
use Rattle.js_grammar.specs.Expressions as exprs
use Rattle.js_grammar.specs.Statements as stmts
use Rattle.js_grammar.specs.Reader.{readers}
use Rattle.js_grammar.proofs.Marks.{is-same}
use Rattle.js_cursor.specs.declared.cursor.Cursor.{Cursor}
use Rattle.js_cursor.specs.declared.stop.Stop.{Stop}
use Rattle.js_cursor.specs.declared.stop.Stop.TheVariants.{NoTree, Memory}
use Rattle.js_cursor.specs.Passed.{at_first}
use Rattle.js_cursor.specs.Read.{left, IsRead, IsExpr}
use Rattle.js_descent.proofs.Using.{evaluated, statement_in, declarators_in}
use Rattle.js_descent.proofs.Chains.{chain_deep, chain_broken}

-- a tree that is too deep before an operator is refused
pub chain_refused : (n line k : ℕ) (op : Operator) (a b : PlainExpr) (limit takes : ℕ) (old new : Cursor) (ts : List Token) (x : Token) (e : Stop) (m : ℕ) →
    run (exprs.operated_step n (readers n) line k) a (left new) ≡ run (exprs.operated_step n (readers n) line k) b (left old) →
    new.rest.now ≡ x ∷ ts → operator_at k x ≡ Some op → n < nesting a → e ≡ NoTree m →
    IsRead plain_expr nesting (run (exprs.operated_step n (readers n) line k) b) limit takes old new (Err e)
chain_refused n line k op a b limit takes old new ts x e m same first h d is =
    let none : run (exprs.operated_step n (readers n) line k) b (left old) ≡ None =
    sym same ∙ (ap (λ (z : List Token). run (exprs.operated_step n (readers n) line k) a z) first ∙ chain_deep n line k op a x ts h d) in
    subst (λ (z : Stop). IsRead plain_expr nesting (run (exprs.operated_step n (readers n) line k) b) limit takes old new (Err z)) (sym is) none

-- an operator without an operand is refused
pub chain_unread : (n line k : ℕ) (op : Operator) (a b : PlainExpr) (limit takes most : ℕ) (old at from behind new : Cursor) (x : Token) (e : Stop) →
    run (exprs.operated_step n (readers n) line k) a (left at) ≡ run (exprs.operated_step n (readers n) line k) b (left old) →
    at.rest.now ≡ x ∷ left from → operator_at k x ≡ Some op → nesting a ≤ n → IsExpr ((readers n).expr (Operators k)) most from behind (Err e) →
    IsRead plain_expr nesting (run (exprs.operated_step n (readers n) line k) b) limit takes old new (Err e)
chain_unread n line k op a b limit takes most old at from behind new x (NoTree m) same first h w none =
    sym same ∙ (ap (λ (z : List Token). run (exprs.operated_step n (readers n) line k) a z) first ∙ chain_broken n line k op a x (left from) h w none)
chain_unread n line k op a b limit takes most old at from behind new x Memory same first h w none = tt

-- an expression and its end
pub evaluates : (n : ℕ) (ts r z : List Token) (e : PlainExpr) (s : PlainStmt) → (readers n).expr Assignment ts ≡ Some (e, r) → ended_rest (ending e) r ≡ Some z →
    s ≡ on (line_of ts) (p.expression e) → at_first (stmts.expression_at n (readers n)) ts ≡ Some (s, z)
evaluates n ts r z e s h k made = evaluated n ts ∙ rw (h, k, made) refl

-- a `for` that begins with declarators
pub started : (n : ℕ) (t : Token) (ts r : List Token) (k : DeclareKind) (ds : List PlainDeclarator) → is Sort.Semicolon t ≡ false → declares t ≡ Some k → 0 < n →
    exprs.declarators_of_kind (n - 1) (readers (n - 1)) k ts ≡ Some (ds, r) →
    stmts.start n (readers n) (t ∷ ts) ≡ Some (p.declared t.line k (declarators_of ds), r)
started n t ts r k ds h d room e =
    let inner : (readers n).declarators k ts ≡ Some (ds, r) = declarators_in n k ts room ∙ e in
    rw (h, d, inner) refl

-- after a mark that stood there
passed : {B : Type 0} (k : Sort) (before behind : List Token) (f : List Token → Option B) → (t : Token) × (before ≡ t ∷ behind) × (sort t ≡ k) → after k before f ≡ f behind
passed k before behind f h = ap (λ (z : List Token). after k z f) h.1 ∙ rw (is-same k h.0 h.2) refl

-- a loop with three parts
pub three_stated : (n line : ℕ) (ts a b c d e f r : List Token) (first : PlainStart) (test last : PlainPerhaps) (body s : PlainStmt) →
    stmts.start n (readers n) ts ≡ Some (first, a) → (t : Token) × (a ≡ t ∷ b) × (sort t ≡ Sort.Semicolon) →
    stmts.perhaps n (readers n) Sort.Semicolon b ≡ Some (test, c) → (t : Token) × (c ≡ t ∷ d) × (sort t ≡ Sort.Semicolon) →
    stmts.perhaps n (readers n) Sort.RightParen d ≡ Some (last, e) → (t : Token) × (e ≡ t ∷ f) × (sort t ≡ Sort.RightParen) →
    stmts.body_at n (readers n) f ≡ Some (body, r) → s ≡ on line (p.for_three first test last body) → stmts.for_three_at n (readers n) line ts ≡ Some (s, r)
three_stated n line ts a b c d e f r first test last body s h k i l j m q made =
    rw h (passed Sort.Semicolon a b _ k ∙ rw i (passed Sort.Semicolon c d _ l ∙ rw j (passed Sort.RightParen e f _ m ∙ rw (q, made) refl)))

-- no statement is spelled by nothing
nothing_stated : (room : ℕ) → (readers room).stmt [] ≡ None
unfolding readers
nothing_stated zero = refl
nothing_stated (suc n) = refl

pub stated_nothing : (room limit takes : ℕ) (old new : Cursor) (e : Stop) (m : ℕ) → old.rest.now ≡ [] → e ≡ NoTree m →
    IsRead plain_stmt stmt_nesting (readers room).stmt limit takes old new (Err e)
stated_nothing room limit takes old new e m h is =
    let none : (readers room).stmt (left old) ≡ None = ap (λ (z : List Token). (readers room).stmt z) h ∙ nothing_stated room in
    subst (λ (z : Stop). IsRead plain_stmt stmt_nesting (readers room).stmt limit takes old new (Err z)) (sym is) none

pub empty_stated : (room : ℕ) (old : Cursor) (x : Token) (ts : List Token) (s : PlainStmt) → 0 < room → old.rest.now ≡ x ∷ ts → sort x ≡ Sort.Semicolon →
    s ≡ on x.line p.empty → (readers room).stmt (left old) ≡ Some (s, ts)
empty_stated room old x ts s z first h made =
    ap (λ (y : List Token). (readers room).stmt y) first ∙ (statement_in room (x ∷ ts) z ∙ rw (h, made) refl)

pub block_stated : (room : ℕ) (old : Cursor) (x : Token) (ts : List Token) (ss : List PlainStmt) (r : List Token) (s : PlainStmt) → 0 < room → old.rest.now ≡ x ∷ ts →
    sort x ≡ Sort.LeftBrace → exprs.closed_statements (room - 1) (readers (room - 1)) ts ≡ Some (ss, r) →
    s ≡ on x.line (p.block (stmts_of ss)) → (readers room).stmt (left old) ≡ Some (s, r)
block_stated room old x ts ss r s z first h e made =
    ap (λ (y : List Token). (readers room).stmt y) first ∙ (statement_in room (x ∷ ts) z ∙ rw (h, e, made) refl)
