-- What the readers do at one step.
use Rattle.std.proofs.Common.{◌≡◌, ℕ, zero, suc, ◌+◌, ◌-◌, ◌<◌, ◌≤◌, ◌∙◌, add-one, subst, inl, inr, true, false, List, [], ◌∷◌, ◌++◌, Some, None, refl, sub-one, arith}
use Rattle.std.proofs.Math.Nat.{eq-or-lt_of_le}
use Rattle.js_lexer.specs.declared.token.Token.{Token}
use Rattle.js_tree.specs.declared.tree.Name.{Name}
use Rattle.js_tree.specs.declared.tree.DeclareKind.{DeclareKind}
use Rattle.js_tree.specs.Plain as p
use Rattle.js_tree.specs.Plain.{PlainExpr, at, on, PlainField, PlainDeclarator}
use Rattle.js_tree.specs.Endings.{ending}
use Rattle.js_lexer.specs.declared.sort.Sort.{Sort}
use Rattle.js_grammar.specs.Sorts.{spot}
use Rattle.js_grammar.specs.Arrows.{starts_function}
use Rattle.js_grammar.specs.Tokens.{starts, line_of, is_const, starts_assign}
use Rattle.js_grammar.specs.Grammar.{Level, Operators, Assignment}
use Rattle.js_grammar.specs.Reading as read
use Rattle.js_grammar.specs.Expressions as exprs
use Rattle.js_grammar.specs.Statements as stmts
use Rattle.js_grammar.specs.Reading.{run, and_then}
use Rattle.js_grammar.specs.Reader.{readers}
use Rattle.js_cursor.specs.Passed.{at_first}

-- room

pub no_room : (l : Level) (ts : List Token) → (readers 0).expr l ts ≡ None
unfolding readers
no_room l ts = refl

pub no_room_stmt : (ts : List Token) → (readers 0).stmt ts ≡ None
unfolding readers
no_room_stmt ts = refl

pub no_room_declarators : (k : DeclareKind) (ts : List Token) → (readers 0).declarators k ts ≡ None
unfolding readers
no_room_declarators k ts = refl

pub nothing_read : (n : ℕ) → (readers n).expr Assignment [] ≡ None
unfolding readers
nothing_read zero = refl
nothing_read (suc n) = refl

in_room : (room : ℕ) (ts : List Token) → 0 < room → (readers room).expr Assignment ts ≡ exprs.assignment (room - 1) (readers (room - 1)) ts
unfolding readers
in_room zero ts h = absurd (omega arith)
in_room (suc n) ts h = rw sub-one refl

is_arrow : (n : ℕ) (ts : List Token) → starts_function ts ≡ true → exprs.assignment n (readers n) ts ≡ at_first (exprs.arrow n (readers n)) ts
is_arrow n [] h = refl
is_arrow n (t ∷ ts) h = rw h refl

is_assign : (n : ℕ) (ts : List Token) → starts_function ts ≡ false → starts_assign ts ≡ true → exprs.assignment n (readers n) ts ≡ at_first (exprs.assign_at n (readers n)) ts
is_assign n [] h k = refl
is_assign n (t ∷ ts) h k = rw (h, k) refl

is_choice : (n : ℕ) (ts : List Token) → starts_function ts ≡ false → starts_assign ts ≡ false → exprs.assignment n (readers n) ts ≡ exprs.choice n (readers n) ts
is_choice n [] h k = refl
is_choice n (t ∷ ts) h k = rw (h, k) refl

pub arrow_in : (room : ℕ) (ts : List Token) → 0 < room → starts_function ts ≡ true →
    (readers room).expr Assignment ts ≡ at_first (exprs.arrow (room - 1) (readers (room - 1))) ts
arrow_in room ts h k = in_room room ts h ∙ is_arrow (room - 1) ts k

pub assign_in : (room : ℕ) (ts : List Token) → 0 < room → starts_function ts ≡ false → starts_assign ts ≡ true →
    (readers room).expr Assignment ts ≡ at_first (exprs.assign_at (room - 1) (readers (room - 1))) ts
assign_in room ts h k l = in_room room ts h ∙ is_assign (room - 1) ts k l

pub choice_in : (room : ℕ) (ts : List Token) → 0 < room → starts_function ts ≡ false → starts_assign ts ≡ false →
    (readers room).expr Assignment ts ≡ exprs.choice (room - 1) (readers (room - 1)) ts
choice_in room ts h k l = in_room room ts h ∙ is_choice (room - 1) ts k l

pub evaluated : (n : ℕ) (ts : List Token) →
    at_first (stmts.expression_at n (readers n)) ts ≡ and_then ((readers n).expr Assignment ts) (λ e l. read.ended (ending e) l (λ z. Some (on (line_of ts) (p.expression e), z)))
evaluated n [] = rw (nothing_read n) refl
evaluated n (t ∷ ts) = refl

pub operators_in : (room k : ℕ) (ts : List Token) → 0 < room → (readers room).expr (Operators k) ts ≡ exprs.operators (room - 1) (readers (room - 1)) k ts
unfolding readers
operators_in zero k ts h = absurd (omega arith)
operators_in (suc n) k ts h = rw sub-one refl

pub declarators_in : (room : ℕ) (k : DeclareKind) (ts : List Token) → 0 < room → (readers room).declarators k ts ≡ exprs.declarators_of_kind (room - 1) (readers (room - 1)) k ts
unfolding readers
declarators_in zero k ts h = absurd (omega arith)
declarators_in (suc n) k ts h = rw sub-one refl

pub statement_in : (room : ℕ) (ts : List Token) → 0 < room → (readers room).stmt ts ≡ stmts.statement (room - 1) (readers (room - 1)) ts
unfolding readers
statement_in zero ts h = absurd (omega arith)
statement_in (suc n) ts h = rw sub-one refl

-- tokens that are missing

pub body_value : (n : ℕ) (t : Token) (xs : List Name) (ts : List Token) → starts Sort.LeftBrace ts ≡ false →
    exprs.body n (readers n) t xs ts ≡ and_then ((readers n).expr Assignment ts) (λ e r. Some (at 0 t.line (p.arrow_value (spot t) xs e), r))
body_value n t xs [] h = rw (nothing_read n) refl
body_value n t xs (u ∷ ts) h = rw h refl

pub value_none : (n : ℕ) (alone : PlainDeclarator) (k : DeclareKind) (x : Name) (ts : List Token) → starts Sort.Set ts ≡ false → is_const k ≡ true →
    exprs.value_at n (readers n) alone k x ts ≡ None
value_none n alone k x [] h c = rw c refl
value_none n alone k x (t ∷ ts) h c = rw (h, c) refl

-- lists

pub elements_begin : (n : ℕ) (c : Sort) (es : List PlainExpr) (ts : List Token) → starts c ts ≡ false →
    exprs.elements_step n (readers n) c es ts ≡ and_then ((readers n).expr Assignment ts) (λ e r. exprs.next_element n (readers n) c (es ++ e ∷ []) r)
elements_begin n c es [] h = rw (nothing_read n) refl
elements_begin n c es (t ∷ ts) h = rw h refl

pub next_element_none : (n : ℕ) (c : Sort) (es : List PlainExpr) (ts : List Token) → starts c ts ≡ false → starts Sort.Comma ts ≡ false → exprs.next_element n (readers n) c es ts ≡ None
next_element_none n c es [] h k = refl
next_element_none n c es (t ∷ ts) h k = rw (h, k) refl

pub fields_begin : (n : ℕ) (fs : List PlainField) (ts : List Token) → starts Sort.RightBrace ts ≡ false →
    exprs.fields_step n (readers n) fs ts ≡ and_then (at_first (exprs.field_at n (readers n)) ts) (λ f r. exprs.next_field n (readers n) (fs ++ f ∷ []) r)
fields_begin n fs [] h = refl
fields_begin n fs (t ∷ ts) h = rw h refl

pub next_field_none : (n : ℕ) (fs : List PlainField) (ts : List Token) → starts Sort.RightBrace ts ≡ false → starts Sort.Comma ts ≡ false → exprs.next_field n (readers n) fs ts ≡ None
next_field_none n fs [] h k = refl
next_field_none n fs (t ∷ ts) h k = rw (h, k) refl

pub operators_next : (n k : ℕ) (ts : List Token) (e : PlainExpr) (r : List Token) → exprs.operators n (readers n) k ts ≡ Some (e, r) →
    exprs.operators n (readers n) (k + 1) ts ≡ run (exprs.operated_step n (readers n) (line_of ts) k) e r
operators_next n k ts e r h = rw (add-one, h) refl

-- where the tighter operands are not spelled, the looser are not
pub operators_none : (n k level : ℕ) (ts : List Token) → k ≤ level → exprs.operators n (readers n) k ts ≡ None → exprs.operators n (readers n) level ts ≡ None
operators_none n k zero ts h e = subst (λ (x : ℕ). exprs.operators n (readers n) x ts ≡ None) (let z : k ≡ 0 = omega arith in z) e
operators_none n k (suc m) ts h e = elim (eq-or-lt_of_le h) as (λ s. exprs.operators n (readers n) (suc m) ts ≡ None) [
  | inl z ↦ subst (λ (x : ℕ). exprs.operators n (readers n) x ts ≡ None) z e
  | inr l ↦ rw (operators_none n k m ts (omega arith) e) refl
]
