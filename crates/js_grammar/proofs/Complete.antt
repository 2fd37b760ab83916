-- What is spelled with nesting within the room, the readers give.
use Rattle.std.proofs.Common.{◌≡◌, ℕ, zero, suc, ◌≤◌, ◌<◌, Bool, true, false, not, ◌&&◌, ◌||◌, if◌then◌else◌, List, [], ◌∷◌, ◌++◌, length, Option, Some, None, is_some, refl, ap, ◌∙◌, arith, append_assoc, append-nil}
use Rattle.std.proofs.lemmas.Bool.{le-leb, or_parts}
use Rattle.js_data.proofs.Shared.{OfSome}
use Rattle.js_lexer.specs.declared.token.Token.{Token}
use Rattle.js_lexer.specs.declared.token.Kind.{Kind}
use Rattle.js_lexer.specs.Sorts.{kind_sort}
use Rattle.js_tree.specs.declared.tree.Name.{Name}
use Rattle.js_tree.specs.declared.tree.Operator.{Operator}
use Rattle.js_tree.specs.declared.tree.AssignOp.{AssignOp}
use Rattle.js_tree.specs.declared.tree.Sign.{Sign}
use Rattle.js_tree.specs.declared.tree.Step.{Step}
use Rattle.js_tree.specs.declared.tree.DeclareKind.{DeclareKind}
use Rattle.js_tree.specs.declared.ending.Ending.{Ending}
use Rattle.js_tree.specs.declared.ending.Ending.TheVariants.{Closed}
use Rattle.js_tree.specs.Plain as p
use Rattle.js_tree.specs.Plain.{PlainExpr, at, PlainField, PlainPerhaps, absent, PlainDeclarator, PlainStart, PlainStmt, on, PlainItem, exprs_of, fields_of, declarators_of, stmts_of}
use Rattle.js_tree.specs.Nesting.{nesting, deepest, deepest_field, deepest_declarator, perhaps_nesting, start_nesting, stmt_nesting, deepest_stmt, item_nesting, deepest_item, one_less_if, is_object_name, is_member}
use Rattle.js_tree.specs.Endings.{ending, declarators_ending}
use Rattle.js_lexer.specs.declared.sort.Sort.{Sort}
use Rattle.js_lexer.specs.declared.sort.Sort.TheVariants.{LeftBrace, RightBrace, LeftParen, RightParen, LeftBracket, RightBracket, Dot, Semicolon, Comma, Question, Set, Function, Const, Let, Var, Return, If, Else, While, For, Break, Continue}
use Rattle.js_grammar.specs.Sorts.{same, kind_name, name_at, kind_number, kind_text, sort, is, spot, named, numbered, quoted, member_word}
use Rattle.js_grammar.specs.Operators.{operator_at, starts_operator, sort_sign, sign, sort_step, step, sort_assign, assign_op}
use Rattle.js_grammar.specs.Arrows.{starts_function}
use Rattle.js_grammar.specs.Ends.{starts_end, can_continue, end_absent, begins_other}
use Rattle.js_grammar.specs.Tokens.{starts, line_of, declares, sort_declare, is_const, starts_sign, starts_update, goes_on, starts_call, starts_assign, starts_declaration}
use Rattle.js_grammar.specs.Grammar.{Level, Operators, Assignment, Params, params_none, params_last, params_more, Header, header_name, header_params, Opening, opening, End, end_mark, end_none, Spells, number_of, words_of, true_of, false_of, null_of, name_of, round, list_of, fields_in, function_in, calls, no_sign, signed, update_before, update_after, operators, no_choice, choice, no_assignment, assignment, function_value, function_block, Called, called_first, called_member, called_index, called_with, Operated, operated_first, operated_more, Elements, elements_none, elements_last, elements_more, Field, field_pair, field_name, Fields, fields_none, fields_last, fields_more, Declarator, declarator_value, declarator_name, Declarators, declarators_last, declarators_more, Start, start_nothing, start_declares, start_value, Perhaps, perhaps_none, perhaps_some, Test, test_of, Statements, statements_end, statements_more, Body, body_of, Statement, empty_of, block_of, declaration_of, expression_of, if_only, if_both, while_loop, for_three, for_of, break_end, continue_end, return_end, return_value, Item, item_statement, item_function, SpellsTree, tree_end, tree_more}
use Rattle.js_grammar.specs.Reading as read
use Rattle.js_grammar.specs.Expressions as exprs
use Rattle.js_grammar.specs.Statements as stmts
use Rattle.js_grammar.specs.Reading.{Found, and_then, within, ended_rest, ended, Iteration, again, done, run}
use Rattle.js_grammar.specs.Reader.{readers}
use Rattle.js_grammar.proofs.Marks.{is-same}
use Rattle.js_grammar.proofs.Steps.{weaker, if-gives, then-gives, after-gives, some-gives, after_some-gives, within-gives, IterationGives, Shortens, run-iteration}
use Rattle.js_grammar.proofs.Shorter.{spells_shorter, elements_shorter, field_shorter, declarator_shorter, statement_shorter, item_shorter}
use Rattle.js_grammar.proofs.Sound.{readers-sound, elements-sound, field_at-sound, declarator-sound, item-sound}

-- each iteration takes a token

abbrev Takes : {S : Type 0} → List Token → Iteration S → Type 0
Takes {S} ts t = IterationGives {S = S} (λ z r. length r < length ts) (λ z r. Unit {0}) t

next_param-short : (xs : List Name) (t : Token) (r : List Token) → OfSome (Takes (t ∷ r)) (read.next_param xs r)
next_param-short xs t [] = tt
next_param-short xs t (u ∷ r) = if-gives (Takes (t ∷ (u ∷ r))) (is RightParen u) _ _ (λ h. tt) (λ _. if-gives (Takes (t ∷ (u ∷ r))) (is Comma u) _ _ (λ h. omega arith) (λ h. tt))

pub params_step-short : Shortens read.params_step
params_step-short xs [] = tt
params_step-short xs (t ∷ r) = if-gives (Takes (t ∷ r)) (is RightParen t) _ _ (λ h. tt) (λ _. some-gives (Takes (t ∷ r)) (named t) _ (λ x e. next_param-short (xs ++ x ∷ []) t r))

expr-short : (n : ℕ) (l : Level) (ts : List Token) → OfSome (λ x. length x.1 < length ts) ((readers n).expr l ts)
expr-short n l ts = weaker _ (λ x. length x.1 < length ts) ((readers n).expr l ts) ((readers-sound n).expr l ts) (λ x s. spells_shorter s.0)

stmt-short : (n : ℕ) (ts : List Token) → OfSome (λ x. length x.1 < length ts) ((readers n).stmt ts)
stmt-short n ts = weaker _ (λ x. length x.1 < length ts) ((readers n).stmt ts) ((readers-sound n).stmt ts) (λ x s. statement_shorter s.0)

module _ (n : ℕ) where
  elements-short : (c : Sort) (ts : List Token) → OfSome (λ x. length x.1 < length ts) (exprs.elements n (readers n) c ts)
  elements-short c ts =
      weaker _ (λ x. length x.1 < length ts) (exprs.elements n (readers n) c ts)
      (elements-sound n (readers n) (readers-sound n).expr (readers-sound n).declarators (readers-sound n).stmt c ts) (λ x s. elements_shorter s.0)

  field-short : (t : Token) (ts : List Token) → OfSome (λ x. length x.1 < length (t ∷ ts)) (exprs.field_at n (readers n) t ts)
  field-short t ts =
      weaker _ (λ x. length x.1 < length (t ∷ ts)) (exprs.field_at n (readers n) t ts)
      (field_at-sound n (readers n) (readers-sound n).expr (readers-sound n).declarators (readers-sound n).stmt t ts) (λ x s. field_shorter s.0)

  declarator-short : (k : DeclareKind) (ts : List Token) → OfSome (λ x. length x.1 < length ts) (exprs.declarator n (readers n) k ts)
  declarator-short k ts =
      weaker _ (λ x. length x.1 < length ts) (exprs.declarator n (readers n) k ts)
      (declarator-sound n (readers n) (readers-sound n).expr (readers-sound n).declarators (readers-sound n).stmt k ts) (λ x s. declarator_shorter s.0)

  item-short : (ts : List Token) → OfSome (λ x. length x.1 < length ts) (stmts.item n (readers n) ts)
  item-short ts =
      weaker _ (λ x. length x.1 < length ts) (stmts.item n (readers n) ts)
      (item-sound n (readers n) (readers-sound n).expr (readers-sound n).declarators (readers-sound n).stmt ts) (λ x s. item_shorter s.0)

  next_element-short : (c : Sort) (es : List PlainExpr) (ts r : List Token) → length r < length ts → OfSome (Takes ts) (exprs.next_element n (readers n) c es r)
  next_element-short c es ts [] h = tt
  next_element-short c es ts (u ∷ r) h = if-gives (Takes ts) (is c u) _ _ (λ e. tt) (λ _. if-gives (Takes ts) (is Comma u) _ _ (λ e. omega arith) (λ e. tt))

  pub elements_step-short : (c : Sort) → Shortens (exprs.elements_step n (readers n) c)
  elements_step-short c es [] = tt
  elements_step-short c es (t ∷ r) =
      if-gives (Takes (t ∷ r)) (is c t) _ _ (λ h. tt)
      (λ _. then-gives (λ e m. length m < length (t ∷ r)) (Takes (t ∷ r)) ((readers n).expr Assignment (t ∷ r)) _ (expr-short n Assignment (t ∷ r))
      (λ e m h. next_element-short c (es ++ e ∷ []) (t ∷ r) m h))

  next_field-short : (fs : List PlainField) (ts r : List Token) → length r < length ts → OfSome (Takes ts) (exprs.next_field n (readers n) fs r)
  next_field-short fs ts [] h = tt
  next_field-short fs ts (u ∷ r) h = if-gives (Takes ts) (is RightBrace u) _ _ (λ e. tt) (λ _. if-gives (Takes ts) (is Comma u) _ _ (λ e. omega arith) (λ e. tt))

  pub fields_step-short : Shortens (exprs.fields_step n (readers n))
  fields_step-short fs [] = tt
  fields_step-short fs (t ∷ r) =
      if-gives (Takes (t ∷ r)) (is RightBrace t) _ _ (λ h. tt)
      (λ _. then-gives (λ e m. length m < length (t ∷ r)) (Takes (t ∷ r)) (exprs.field_at n (readers n) t r) _ (field-short t r)
      (λ f m h. next_field-short (fs ++ f ∷ []) (t ∷ r) m h))

  next_declarator-short : (ds : List PlainDeclarator) (ts r : List Token) → length r < length ts → OfSome (Takes ts) (exprs.next_declarator n (readers n) ds r)
  next_declarator-short ds ts [] h = tt
  next_declarator-short ds ts (u ∷ r) h = if-gives (Takes ts) (is Comma u) _ _ (λ e. omega arith) (λ e. tt)

  pub declarators_step-short : (k : DeclareKind) → Shortens (exprs.declarators_step n (readers n) k)
  declarators_step-short k ds r =
      then-gives (λ e m. length m < length r) (Takes r) (exprs.declarator n (readers n) k r) _ (declarator-short k r)
      (λ d m h. next_declarator-short (ds ++ d ∷ []) r m h)

  pub statements_step-short : Shortens (exprs.statements_step n (readers n))
  statements_step-short ss r =
      if-gives (Takes r) (starts_end r) _ _ (λ h. tt)
      (λ _. then-gives (λ e m. length m < length r) (Takes r) ((readers n).stmt r) _ (stmt-short n r) (λ e m h. h))

  pub items_step-short : Shortens (stmts.items_step n (readers n))
  items_step-short is [] = tt
  items_step-short is (t ∷ r) =
      then-gives (λ e m. length m < length (t ∷ r)) (Takes (t ∷ r)) (stmts.item n (readers n) (t ∷ r)) _ (item-short (t ∷ r)) (λ e m h. h)

  called_at-short : (line : ℕ) (e : PlainExpr) (k : Sort) (t : Token) (ts : List Token) → OfSome (Takes (t ∷ ts)) (exprs.called_at n (readers n) line e k (t ∷ ts) ts)
  called_at-short line e Dot t ts =
      within-gives (Takes (t ∷ ts)) (one_less_if (is_object_name e) (nesting e)) n _ (λ _.
      after_some-gives (λ m. length m < length (t ∷ ts)) (Takes (t ∷ ts)) member_word ts _ (omega arith) (λ u x m d k. omega arith))
  called_at-short line e LeftBracket t ts =
      within-gives (Takes (t ∷ ts)) (nesting e) n _ (λ _.
      then-gives (λ e m. length m < length ts) (Takes (t ∷ ts)) ((readers n).expr Assignment ts) _ (expr-short n Assignment ts) (λ i m h.
      after-gives (λ m. length m < length (t ∷ ts)) (Takes (t ∷ ts)) RightBracket m _ (omega arith) (λ u l d k. omega arith)))
  called_at-short line e LeftParen t ts =
      within-gives (Takes (t ∷ ts)) (one_less_if (is_member e) (nesting e)) n _ (λ _.
      then-gives (λ e m. length m < length ts) (Takes (t ∷ ts)) (exprs.elements n (readers n) RightParen ts) _ (elements-short RightParen ts) (λ i m h. omega arith))
  called_at-short line e _ t ts = tt

  pub called_step-short : (line : ℕ) → Shortens (exprs.called_step n (readers n) line)
  called_step-short line e [] = tt
  called_step-short line e (t ∷ ts) = called_at-short line e (sort t) t ts

  operated_at-short : (line k : ℕ) (a : PlainExpr) (o : Option Operator) (t : Token) (ts : List Token) → OfSome (Takes (t ∷ ts)) (exprs.operated_at n (readers n) line k a o (t ∷ ts) ts)
  operated_at-short line k a None t ts = tt
  operated_at-short line k a (Some op) t ts =
      within-gives (Takes (t ∷ ts)) (nesting a) n _ (λ _.
      then-gives (λ e m. length m < length ts) (Takes (t ∷ ts)) ((readers n).expr (Operators k) ts) _ (expr-short n (Operators k) ts) (λ i m h. omega arith))

  pub operated_step-short : (line k : ℕ) → Shortens (exprs.operated_step n (readers n) line k)
  operated_step-short line k a [] = tt
  operated_step-short line k a (t ∷ ts) = operated_at-short line k a (operator_at k t) t ts

-- what a token holds tells its sort

name-sort : (k : Kind) (s : _) (x : Name) → name_at (kind_name k) s ≡ Some x → kind_sort k ≡ Sort.Name
name-sort (Kind.Name t) s x h = refl
name-sort _ s x h = cc

named-sort : (t : Token) (x : Name) → named t ≡ Some x → sort t ≡ Sort.Name
unfolding named sort
named-sort t x h = name-sort t.kind (spot t) x h

number-sort : (k : Kind) (x : _) → kind_number k ≡ Some x → kind_sort k ≡ Sort.Number
number-sort (Kind.Number t) x h = refl
number-sort _ x h = cc

numbered-sort : (t : Token) (x : _) → numbered t ≡ Some x → sort t ≡ Sort.Number
unfolding numbered sort
numbered-sort t x h = number-sort t.kind x h

text-sort : (k : Kind) (x : List ℕ) → kind_text k ≡ Some x → kind_sort k ≡ Sort.Text
text-sort (Kind.Text t) x h = refl
text-sort _ x h = cc

quoted-sort : (t : Token) (x : List ℕ) → quoted t ≡ Some x → sort t ≡ Sort.Text
unfolding quoted sort
quoted-sort t x h = text-sort t.kind x h

name-none : (k : Kind) (s : _) → kind_sort k ≡ LeftParen → name_at (kind_name k) s ≡ None
name-none (Kind.Name t) s h = cc
name-none _ s h = refl

-- no name stands where `(` does
pub paren-unnamed : (t : Token) → sort t ≡ LeftParen → named t ≡ None
unfolding named sort
paren-unnamed t h = name-none t.kind (spot t) h

-- one step each

less-back : (b : Bool) (n m : ℕ) → one_less_if b n ≤ m → n ≤ suc m
less-back true n m h = omega arith
less-back false n m h = omega arith

semicolon_absent : (k : Sort) (n b : Bool) → (same RightBrace k || (n && not (same Semicolon k) && not b)) ≡ true → same Semicolon k ≡ false
semicolon_absent Semicolon true b h = cc
semicolon_absent Semicolon false b h = cc
semicolon_absent _ n b h = refl

if-second : {B : Type 0} (s a : Bool) (x y z : B) → s ≡ false → a ≡ true → (if s then x else (if a then y else z)) ≡ y
if-second true a x y z h k = cc
if-second false true x y z h k = refl
if-second false false x y z h k = cc

ended_rest-read : (b : Ending) (ts r : List Token) → End b ts r → ended_rest b ts ≡ Some r
ended_rest-read b ts r (end_mark {t = t} h) = rw h refl
ended_rest-read b [] r (end_none h) = refl
ended_rest-read b (t ∷ ts) r (end_none h) =
    if-second (is Semicolon t) (end_absent b (t ∷ ts)) (Some ts) (Some (t ∷ ts)) None (semicolon_absent (sort t) t.new_line (can_continue b (sort t)) h) h

ended-read : {B : Type 0} (b : Ending) (ts r : List Token) (f : List Token → Option B) → End b ts r → ended b ts f ≡ f r
ended-read b ts r f h = rw (ended_rest-read b ts r h) refl

step-unsigned : (k : Sort) (s : Step) → sort_step k ≡ Some s → sort_sign k ≡ None
step-unsigned Sort.Increment s h = refl
step-unsigned Sort.Decrement s h = refl
step-unsigned _ s h = cc

step_unsigned : (t : Token) (s : Step) → step t ≡ Some s → sign t ≡ None
unfolding step sign
step_unsigned t s h = step-unsigned (sort t) s h

name_unsigned : (t : Token) → sort t ≡ Sort.Name → sign t ≡ None
unfolding sign
name_unsigned t h = rw h refl

name_unstepped : (t : Token) → sort t ≡ Sort.Name → step t ≡ None
unfolding step
name_unstepped t h = rw h refl

assign-no_arrow : (k : Sort) (op : AssignOp) → sort_assign k ≡ Some op → same Sort.Arrow k ≡ false
assign-no_arrow Sort.Arrow op h = cc
assign-no_arrow _ op h = refl

set_no_arrow : (t : Token) (op : AssignOp) → assign_op t ≡ Some op → is Sort.Arrow t ≡ false
unfolding assign_op
set_no_arrow t op h = assign-no_arrow (sort t) op h

declare-no_semicolon : (k : Sort) (d : DeclareKind) → sort_declare k ≡ Some d → same Semicolon k ≡ false
declare-no_semicolon Semicolon d h = cc
declare-no_semicolon _ d h = refl

declares_no_semicolon : (t : Token) (d : DeclareKind) → declares t ≡ Some d → is Semicolon t ≡ false
unfolding declares
declares_no_semicolon t d h = declare-no_semicolon (sort t) d h

nesting-one : (e : PlainExpr) → nesting e ≤ 0 → ⊥
nesting-one (at n line f) h = omega arith

stmt_nesting-one : (s : PlainStmt) → stmt_nesting s ≤ 0 → ⊥
stmt_nesting-one (on line f) h = omega arith

module _ (n : ℕ) where
  called_at-stop : (line : ℕ) (e : PlainExpr) (k : Sort) (all ts : List Token) → goes_on k ≡ false → exprs.called_at n (readers n) line e k all ts ≡ Some (done e all)
  called_at-stop line e Dot all ts h = cc
  called_at-stop line e LeftBracket all ts h = cc
  called_at-stop line e LeftParen all ts h = cc
  called_at-stop line e _ all ts h = refl

  called_step-stop : (line : ℕ) (e : PlainExpr) (ts : List Token) → starts_call ts ≡ false → exprs.called_step n (readers n) line e ts ≡ Some (done e ts)
  called_step-stop line e [] h = refl
  called_step-stop line e (t ∷ ts) h = called_at-stop line e (sort t) (t ∷ ts) ts h

  operated_at-stop : (line k : ℕ) (a : PlainExpr) (o : Option Operator) (all ts : List Token) → is_some o ≡ false → exprs.operated_at n (readers n) line k a o all ts ≡ Some (done a all)
  operated_at-stop line k a None all ts h = refl
  operated_at-stop line k a (Some op) all ts h = cc

  operated_step-stop : (line k : ℕ) (a : PlainExpr) (ts : List Token) → starts_operator k ts ≡ false → exprs.operated_step n (readers n) line k a ts ≡ Some (done a ts)
  operated_step-stop line k a [] h = refl
  operated_step-stop line k a (t ∷ ts) h = operated_at-stop line k a (operator_at k t) (t ∷ ts) ts h

  unary_at-stop : (o : Option Sign) (t : Token) (ts : List Token) → is_some o ≡ false → exprs.unary_at n (readers n) o t ts ≡ exprs.step_at n (readers n) (step t) t ts
  unary_at-stop None t ts h = refl
  unary_at-stop (Some op) t ts h = cc

  step_at-stop : (o : Option Step) (t : Token) (ts : List Token) → is_some o ≡ false → exprs.step_at n (readers n) o t ts ≡ exprs.unstepped n (readers n) t ts
  step_at-stop None t ts h = refl
  step_at-stop (Some op) t ts h = cc

  signed-stop : (ts : List Token) → starts_sign ts ≡ false → starts_update ts ≡ false → exprs.signed n (readers n) ts ≡ exprs.called n (readers n) ts
  signed-stop [] h k = refl
  signed-stop (t ∷ ts) h k =
      let l = or_parts (is_some (sign t)) (is_some (step t)) h in
      unary_at-stop (sign t) t ts l.0 ∙ (step_at-stop (step t) t ts l.1 ∙ rw k refl)

  pub choice_alone : (line : ℕ) (a : PlainExpr) (ts : List Token) → starts Question ts ≡ false → exprs.choice_after n (readers n) line a ts ≡ Some (a, ts)
  choice_alone line a [] h = refl
  choice_alone line a (t ∷ ts) h = rw h refl

  assignment-stop : (ts : List Token) (e : PlainExpr) (r : List Token) → starts_function ts ≡ false → starts_assign ts ≡ false → length r < length ts →
      exprs.choice n (readers n) ts ≡ Some (e, r) → exprs.assignment n (readers n) ts ≡ Some (e, r)
  assignment-stop [] e r h k l d = absurd (omega arith)
  assignment-stop (t ∷ ts) e r h k l d = rw (h, k) d

  body-value : (t : Token) (xs : List Name) (ts : List Token) (e : PlainExpr) (r : List Token) → starts LeftBrace ts ≡ false → length r < length ts →
      (readers n).expr Assignment ts ≡ Some (e, r) → exprs.body n (readers n) t xs ts ≡ Some (at 0 t.line (p.arrow_value (spot t) xs e), r)
  body-value t xs [] e r b l h = absurd (omega arith)
  body-value t xs (u ∷ ts) e r b l h = rw (b, h) refl

  elements_step-goes : (c : Sort) (es : List PlainExpr) (ts : List Token) (e : PlainExpr) (r : List Token) → starts c ts ≡ false → length r < length ts →
      (readers n).expr Assignment ts ≡ Some (e, r) → exprs.elements_step n (readers n) c es ts ≡ exprs.next_element n (readers n) c (es ++ e ∷ []) r
  elements_step-goes c es [] e r b l h = absurd (omega arith)
  elements_step-goes c es (t ∷ ts) e r b l h = rw (b, h) refl

  pub value_alone : (alone : PlainDeclarator) (k : DeclareKind) (x : Name) (ts : List Token) → starts Set ts ≡ false → is_const k ≡ false →
      exprs.value_at n (readers n) alone k x ts ≡ Some (alone, ts)
  value_alone alone k x [] h c = rw c refl
  value_alone alone k x (t ∷ ts) h c = rw (h, c) refl

  pub next_declarator_stop : (ds : List PlainDeclarator) (ts : List Token) → starts Comma ts ≡ false → exprs.next_declarator n (readers n) ds ts ≡ Some (done ds ts)
  next_declarator_stop ds [] h = refl
  next_declarator_stop ds (t ∷ ts) h = rw h refl

  start-nothing : (ts : List Token) → starts Semicolon ts ≡ true → stmts.start n (readers n) ts ≡ Some (p.nothing, ts)
  start-nothing [] h = cc
  start-nothing (t ∷ ts) h = rw h refl

  start_at-stop : (o : Option DeclareKind) (t : Token) (ts : List Token) (e : PlainExpr) (r : List Token) → is_some o ≡ false → (readers n).expr Assignment (t ∷ ts) ≡ Some (e, r) →
      stmts.start_at n (readers n) o t ts ≡ Some (p.started e, r)
  start_at-stop None t ts e r h d = rw d refl
  start_at-stop (Some k) t ts e r h d = cc

  start-value : (ts : List Token) (e : PlainExpr) (r : List Token) → starts Semicolon ts ≡ false → starts_declaration ts ≡ false → length r < length ts →
      (readers n).expr Assignment ts ≡ Some (e, r) → stmts.start n (readers n) ts ≡ Some (p.started e, r)
  start-value [] e r h k l d = absurd (omega arith)
  start-value (t ∷ ts) e r h k l d = rw h (start_at-stop (declares t) t ts e r k d)

  pub else_alone : (line : ℕ) (e : PlainExpr) (s : PlainStmt) (ts : List Token) → starts Else ts ≡ false → stmts.else_after n (readers n) line e s ts ≡ Some (on line (p.if_alone e s), ts)
  else_alone line e s [] h = refl
  else_alone line e s (t ∷ ts) h = rw h refl

  statement_at-declares : (s : Sort) (k : DeclareKind) (t : Token) (ts : List Token) → sort_declare s ≡ Some k →
      stmts.statement_at n (readers n) s t ts ≡ stmts.declaration_at n (readers n) t.line k ts
  statement_at-declares Const k t ts h = let e : DeclareKind.Const ≡ k = cc in ap (λ d. stmts.declaration_at n (readers n) t.line d ts) e
  statement_at-declares Let k t ts h = let e : DeclareKind.Let ≡ k = cc in ap (λ d. stmts.declaration_at n (readers n) t.line d ts) e
  statement_at-declares Var k t ts h = let e : DeclareKind.Var ≡ k = cc in ap (λ d. stmts.declaration_at n (readers n) t.line d ts) e
  statement_at-declares _ k t ts h = cc

  statement-declares : (k : DeclareKind) (t : Token) (ts : List Token) → declares t ≡ Some k →
      stmts.statement_at n (readers n) (sort t) t ts ≡ stmts.declaration_at n (readers n) t.line k ts
  unfolding declares
  statement-declares k t ts h = statement_at-declares (sort t) k t ts h

  statement_at-other : (s : Sort) (t : Token) (ts : List Token) → begins_other s ≡ false → stmts.statement_at n (readers n) s t ts ≡ stmts.expression_at n (readers n) t ts
  statement_at-other Semicolon t ts h = cc
  statement_at-other LeftBrace t ts h = cc
  statement_at-other Function t ts h = cc
  statement_at-other Const t ts h = cc
  statement_at-other Let t ts h = cc
  statement_at-other Var t ts h = cc
  statement_at-other If t ts h = cc
  statement_at-other While t ts h = cc
  statement_at-other For t ts h = cc
  statement_at-other Break t ts h = cc
  statement_at-other Continue t ts h = cc
  statement_at-other Return t ts h = cc
  statement_at-other _ t ts h = refl

  item-statement : (t : Token) (ts : List Token) (s : PlainStmt) (r : List Token) → is Function t ≡ false →
      stmts.statement n (readers n) (t ∷ ts) ≡ Some (s, r) → stmts.item n (readers n) (t ∷ ts) ≡ Some (p.statement (spot t) s, r)
  item-statement t ts s r h d = rw (h, d) refl

  items_step-goes : (is : List PlainItem) (ts : List Token) (i : PlainItem) (r : List Token) → length r < length ts →
      stmts.item n (readers n) ts ≡ Some (i, r) → stmts.items_step n (readers n) is ts ≡ Some (again (is ++ i ∷ []) r)
  items_step-goes is [] i r l d = absurd (omega arith)
  items_step-goes is (t ∷ ts) i r l d = rw d refl

-- names

params-read : {ts r : List Token} {xs : List Name} → Params ts xs r → (acc : List Name) → run read.params_step acc ts ≡ Some (acc ++ xs, r)
params-read (params_none {t = t} {rest = rest} h) acc =
    run-iteration read.params_step params_step-short acc (t ∷ rest) ∙ rw (h, append-nil) refl
params-read (params_last {t = t} {u = u} {rest = rest} {x = x} h k) acc =
    run-iteration read.params_step params_step-short acc (t ∷ (u ∷ rest)) ∙ rw (named-sort t x h, h, k) refl
params-read (params_more {t = t} {u = u} {ts = ts} {rest = rest} {x = x} {xs = xs} h k d) acc =
    run-iteration read.params_step params_step-short acc (t ∷ (u ∷ ts)) ∙ rw (named-sort t x h, h, k) (params-read d (acc ++ x ∷ []) ∙ rw append_assoc refl)

header-read : {ts r : List Token} {xs : List Name} → Header ts xs r → read.header ts ≡ Some (xs, r)
header-read (header_name h k) = rw (h, k) refl
header-read (header_params {t = t} h d k) = rw (paren-unnamed t h, h, params-read d [], k) refl

opening-read : {ts r : List Token} {xs : List Name} → Opening ts xs r → read.opening ts ≡ Some (xs, r)
opening-read (opening h d k) = rw (h, params-read d [], k) refl

-- trees

mutual
  unfolding readers

  pub spells-read : {l : Level} {ts r : List Token} {e : PlainExpr} → Spells l ts e r → (n : ℕ) → nesting e ≤ n → (readers n).expr l ts ≡ Some (e, r)
  spells-read {e = e} d zero w = absurd (nesting-one e w)
  spells-read (number_of {t = t} {n = v} h) (suc n) w = rw (numbered-sort t v h, h) refl
  spells-read (words_of {t = t} {x = x} h) (suc n) w = rw (quoted-sort t x h, h) refl
  spells-read (true_of h) (suc n) w = rw h refl
  spells-read (false_of h) (suc n) w = rw h refl
  spells-read (null_of h) (suc n) w = rw h refl
  spells-read (name_of {t = t} {x = x} h) (suc n) w = rw (named-sort t x h, h) refl
  spells-read (round h d k) (suc n) w = rw (h, spells-read d n (omega arith), k) refl
  spells-read (list_of {es = es} h d) (suc n) w = rw (h, elements-read d refl n (omega arith) []) refl
  spells-read (fields_in h d) (suc n) w = rw (h, fields-read d n (omega arith) []) refl
  spells-read (function_in h o d k) (suc n) w = rw (h, opening-read o, statements-read d n (omega arith) [], k) refl
  spells-read (calls {ts = ts} {rest = rest} {e = e} d h) (suc n) w =
      called-read d n w ∙ (run-iteration (exprs.called_step n (readers n) (line_of ts)) (called_step-short n (line_of ts)) e rest ∙ rw (called_step-stop n (line_of ts) e rest h) refl)
  spells-read (no_sign {ts = ts} h k d) (suc n) w = signed-stop n ts h k ∙ spells-read d (suc n) w
  spells-read (signed h d) (suc n) w = rw (h, spells-read d n (omega arith)) refl
  spells-read (update_before {t = t} {s = s} h k) (suc n) w = rw (step_unsigned t s h, h, k) refl
  spells-read (update_after {t = t} {x = x} h k l) (suc n) w =
      rw (name_unsigned t (named-sort t x h), name_unstepped t (named-sort t x h), h, k, l) refl
  spells-read (operators {k = k} {ts = ts} {rest = rest} {e = e} d h) (suc n) w =
      operated-read d n w ∙ (run-iteration (exprs.operated_step n (readers n) (line_of ts) k) (operated_step-short n (line_of ts) k) e rest ∙ rw (operated_step-stop n (line_of ts) k e rest h) refl)
  spells-read (no_choice {ts = ts} {rest = rest} {e = e} d h) (suc n) w =
      ap (λ (o : Found PlainExpr). and_then o (exprs.choice_after n (readers n) (line_of ts))) (spells-read d (suc n) w) ∙ choice_alone n (line_of ts) e rest h
  spells-read (choice {ts = ts} {ms = ms} {ns = ns} {a = a} {b = b} {c = c} d h f k g) (suc n) w =
      ap (λ (o : Found PlainExpr). and_then o (exprs.choice_after n (readers n) (line_of ts))) (spells-read d (suc n) (omega arith)) ∙
      rw (h, le-leb (nesting a) n (omega arith), spells-read f n (omega arith), k, spells-read g n (omega arith)) refl
  spells-read (no_assignment {ts = ts} {rest = rest} {e = e} h k d) (suc n) w = assignment-stop n ts e rest h k (spells_shorter d) (spells-read d (suc n) w)
  spells-read (assignment {t = t} {u = u} {x = x} {op = op} h k d) (suc n) w =
      rw (named-sort t x h, set_no_arrow u op k, h, k, spells-read d n (omega arith)) refl
  spells-read (function_value {t = t} {ms = ms} {rest = rest} {xs = xs} {e = e} h k b d) (suc n) w =
      rw (h, header-read k) (body-value n t xs ms e rest b (spells_shorter d) (spells-read d n (omega arith)))
  spells-read (function_block h k b d c) (suc n) w =
      rw (h, header-read k, b, statements-read d n (omega arith) [], c) refl

  called-read : {ts r : List Token} {e : PlainExpr} → Called ts e r → (n : ℕ) → nesting e ≤ suc n →
      exprs.called n (readers n) ts ≡ run (exprs.called_step n (readers n) (line_of ts)) e r
  called-read {ts = ts} (called_first d) n w = ap (λ (o : Found PlainExpr). and_then o (run (exprs.called_step n (readers n) (line_of ts)))) (spells-read d (suc n) w)
  called-read {ts = ts} (called_member {t = t} {u = u} {rest = rest} {e = e} d h k) n w =
      let fits : one_less_if (is_object_name e) (nesting e) ≤ n = omega arith in
      called-read d n (less-back (is_object_name e) (nesting e) n fits) ∙ (run-iteration (exprs.called_step n (readers n) (line_of ts)) (called_step-short n (line_of ts)) e (t ∷ (u ∷ rest)) ∙
      rw (h, le-leb (one_less_if (is_object_name e) (nesting e)) n fits, k) refl)
  called-read {ts = ts} (called_index {t = t} {ms = ms} {e = e} d h f k) n w =
      called-read d n (omega arith) ∙ (run-iteration (exprs.called_step n (readers n) (line_of ts)) (called_step-short n (line_of ts)) e (t ∷ ms) ∙
      rw (h, le-leb (nesting e) n (omega arith), spells-read f n (omega arith), k) refl)
  called-read {ts = ts} (called_with {t = t} {ms = ms} {e = e} d h f) n w =
      let fits : one_less_if (is_member e) (nesting e) ≤ n = omega arith in
      called-read d n (less-back (is_member e) (nesting e) n fits) ∙ (run-iteration (exprs.called_step n (readers n) (line_of ts)) (called_step-short n (line_of ts)) e (t ∷ ms) ∙
      rw (h, le-leb (one_less_if (is_member e) (nesting e)) n fits, elements-read f refl n (omega arith) []) refl)

  operated-read : {k : ℕ} {ts r : List Token} {e : PlainExpr} → Operated k ts e r → (n : ℕ) → nesting e ≤ suc n →
      and_then (exprs.operators n (readers n) k ts) (run (exprs.operated_step n (readers n) (line_of ts) k)) ≡ run (exprs.operated_step n (readers n) (line_of ts) k) e r
  operated-read {k = k} {ts = ts} (operated_first d) n w = ap (λ (o : Found PlainExpr). and_then o (run (exprs.operated_step n (readers n) (line_of ts) k))) (spells-read d (suc n) w)
  operated-read {ts = ts} (operated_more {k = k} {t = t} {ms = ms} {a = a} d h f) n w =
      operated-read d n (omega arith) ∙ (run-iteration (exprs.operated_step n (readers n) (line_of ts) k) (operated_step-short n (line_of ts) k) a (t ∷ ms) ∙
      rw (h, le-leb (nesting a) n (omega arith), spells-read f n (omega arith)) refl)

  elements-read : {c : Sort} {ts r : List Token} {es : List PlainExpr} → Elements c ts es r → same c Comma ≡ false →
      (n : ℕ) → deepest (exprs_of es) ≤ n → (acc : List PlainExpr) →
      run (exprs.elements_step n (readers n) c) acc ts ≡ Some (acc ++ es, r)
  elements-read (elements_none {c = c} {t = t} {rest = rest} h) b n w acc =
      run-iteration (exprs.elements_step n (readers n) c) (elements_step-short n c) acc (t ∷ rest) ∙ rw (is-same c t h, append-nil) refl
  elements-read (elements_last {c = c} {t = t} {ts = ts} {rest = rest} {e = e} a d h) b n w acc =
      run-iteration (exprs.elements_step n (readers n) c) (elements_step-short n c) acc ts ∙
      rw (elements_step-goes n c acc ts e (t ∷ rest) a (spells_shorter d) (spells-read d n (omega arith)), is-same c t h) refl
  elements-read (elements_more {c = c} {t = t} {ts = ts} {ms = ms} {e = e} {es = es} a d h f) b n w acc =
      run-iteration (exprs.elements_step n (readers n) c) (elements_step-short n c) acc ts ∙
      rw (elements_step-goes n c acc ts e (t ∷ ms) a (spells_shorter d) (spells-read d n (omega arith)), h, b)
      (elements-read f b n (omega arith) (acc ++ e ∷ []) ∙ rw append_assoc refl)

  fields_step-goes : {ts r : List Token} {f : PlainField} → Field ts f r → starts RightBrace ts ≡ false → (n : ℕ) → nesting f.value ≤ n → (fs : List PlainField) →
      exprs.fields_step n (readers n) fs ts ≡ exprs.next_field n (readers n) (fs ++ f ∷ []) r
  fields_step-goes (field_pair h k d) b n w fs = rw (b, k, h, spells-read d n w) refl
  fields_step-goes (field_name h k) b n w fs = rw (b, k, le-leb 1 n w, h) refl

  fields-read : {ts r : List Token} {fs : List PlainField} → Fields ts fs r → (n : ℕ) → deepest_field (fields_of fs) ≤ n → (acc : List PlainField) →
      run (exprs.fields_step n (readers n)) acc ts ≡ Some (acc ++ fs, r)
  fields-read (fields_none {t = t} {rest = rest} h) n w acc =
      run-iteration (exprs.fields_step n (readers n)) (fields_step-short n) acc (t ∷ rest) ∙ rw (h, append-nil) refl
  fields-read (fields_last {t = t} {ts = ts} {rest = rest} {f = f} a d h) n w acc =
      run-iteration (exprs.fields_step n (readers n)) (fields_step-short n) acc ts ∙ rw (fields_step-goes d a n (omega arith) acc, h) refl
  fields-read (fields_more {t = t} {ts = ts} {ms = ms} {f = f} {fs = fs} a d h g) n w acc =
      run-iteration (exprs.fields_step n (readers n)) (fields_step-short n) acc ts ∙
      rw (fields_step-goes d a n (omega arith) acc, h) (fields-read g n (omega arith) (acc ++ f ∷ []) ∙ rw append_assoc refl)

  declarator-read : {k : DeclareKind} {ts r : List Token} {d : PlainDeclarator} → Declarator k ts d r → (n : ℕ) → perhaps_nesting d.value ≤ n →
      exprs.declarator n (readers n) k ts ≡ Some (d, r)
  declarator-read (declarator_value h i s) n w = rw (h, i, spells-read s n w) refl
  declarator-read (declarator_name {k = k} {t = t} {rest = rest} {x = x} h b c) n w =
      rw h (value_alone n (record { name = x; value = absent; end = t.to }) k x rest b c)

  declarators-read : {k : DeclareKind} {ts r : List Token} {ds : List PlainDeclarator} → Declarators k ts ds r → (n : ℕ) → deepest_declarator (declarators_of ds) ≤ n →
      (acc : List PlainDeclarator) → run (exprs.declarators_step n (readers n) k) acc ts ≡ Some (acc ++ ds, r)
  declarators-read (declarators_last {k = k} {ts = ts} {rest = rest} {d = d} s h) n w acc =
      run-iteration (exprs.declarators_step n (readers n) k) (declarators_step-short n k) acc ts ∙
      rw (declarator-read s n (omega arith), next_declarator_stop n (acc ++ d ∷ []) rest h) refl
  declarators-read (declarators_more {k = k} {t = t} {ts = ts} {ms = ms} {d = d} s h f) n w acc =
      run-iteration (exprs.declarators_step n (readers n) k) (declarators_step-short n k) acc ts ∙
      rw (declarator-read s n (omega arith), h) (declarators-read f n (omega arith) (acc ++ d ∷ []) ∙ rw append_assoc refl)

  start-read : {ts r : List Token} {s : PlainStart} → Start ts s r → (n : ℕ) → start_nesting s ≤ n → stmts.start n (readers n) ts ≡ Some (s, r)
  start-read (start_nothing {rest = rest} h) n w = start-nothing n rest h
  start-read (start_declares h d) zero w = absurd (omega arith)
  start-read (start_declares {t = t} {k = k} h d) (suc n) w = rw (declares_no_semicolon t k h, h, declarators-read d n (omega arith) []) refl
  start-read (start_value {ts = ts} {rest = rest} {e = e} h k d) n w = start-value n ts e rest h k (spells_shorter d) (spells-read d n w)

  perhaps-read : {c : Sort} {ts r : List Token} {e : PlainPerhaps} → Perhaps c ts e r → (n : ℕ) → perhaps_nesting e ≤ n → stmts.perhaps n (readers n) c ts ≡ Some (e, r)
  perhaps-read (perhaps_none h) n w = rw h refl
  perhaps-read (perhaps_some h d) n w = rw (h, spells-read d n w) refl

  test-read : {ts r : List Token} {e : PlainExpr} → Test ts e r → (n : ℕ) → nesting e ≤ n → stmts.test n (readers n) ts ≡ Some (e, r)
  test-read (test_of h d k) n w = rw (h, spells-read d n w, k) refl

  pub statements-read : {ts r : List Token} {ss : List PlainStmt} → Statements ts ss r → (n : ℕ) → deepest_stmt (stmts_of ss) ≤ n → (acc : List PlainStmt) →
      run (exprs.statements_step n (readers n)) acc ts ≡ Some (acc ++ ss, r)
  statements-read {ts = ts} (statements_end h) n w acc =
      run-iteration (exprs.statements_step n (readers n)) (statements_step-short n) acc ts ∙ rw (h, append-nil) refl
  statements-read {ts = ts} (statements_more {s = s} h d f) n w acc =
      run-iteration (exprs.statements_step n (readers n)) (statements_step-short n) acc ts ∙
      rw (h, statement-read d n (omega arith)) (statements-read f n (omega arith) (acc ++ s ∷ []) ∙ rw append_assoc refl)

  body-read : {ts r : List Token} {s : PlainStmt} → Body ts s r → (n : ℕ) → stmt_nesting s ≤ n → stmts.body_at n (readers n) ts ≡ Some (s, r)
  body-read (body_of h d) n w = rw (h, statement-read d n w) refl

  pub statement-read : {ts r : List Token} {s : PlainStmt} → Statement ts s r → (n : ℕ) → stmt_nesting s ≤ n → (readers n).stmt ts ≡ Some (s, r)
  statement-read {s = s} d zero w = absurd (stmt_nesting-one s w)
  statement-read (empty_of h) (suc n) w = rw h refl
  statement-read (block_of h d k) (suc n) w = rw (h, statements-read d n (omega arith) [], k) refl
  statement-read (declaration_of {t = t} {ts = ts} {ms = ms} {rest = rest} {k = k} {ds = ds} h d f) (suc n) w =
      statement-declares n k t ts h ∙ rw (declarators-read d n (omega arith) [])
      (ended-read (declarators_ending ds) ms rest (λ z. Some (on t.line (p.declaration k (declarators_of ds)), z)) f)
  statement-read (expression_of {t = t} {ts = ts} {ms = ms} {rest = rest} {e = e} h d f) (suc n) w =
      statement_at-other n (sort t) t ts h ∙ rw (spells-read d n (omega arith)) (ended-read (ending e) ms rest (λ z. Some (on t.line (p.expression e), z)) f)
  statement-read (if_only {t = t} {rest = rest} {e = e} {s = s} h i d b) (suc n) w =
      rw (h, test-read i n (omega arith), body-read d n (omega arith)) (else_alone n t.line e s rest b)
  statement-read (if_both h i d b g) (suc n) w =
      rw (h, test-read i n (omega arith), body-read d n (omega arith), b, body-read g n (omega arith)) refl
  statement-read (while_loop h i d) (suc n) w = rw (h, test-read i n (omega arith), body-read d n (omega arith)) refl
  statement-read (for_three h i b s j e k f l d) (suc n) w =
      rw (h, i, b, start-read s n (omega arith), j, perhaps-read e n (omega arith), k, perhaps-read f n (omega arith), l, body-read d n (omega arith)) refl
  statement-read (for_of h i j k o d l f) (suc n) w =
      rw (h, i, j, k, o, spells-read d n (omega arith), l, body-read f n (omega arith)) refl
  statement-read (break_end {t = t} {ts = ts} {rest = rest} h f) (suc n) w =
      rw h (ended-read Closed ts rest (λ z. Some (on t.line (p.break_of (spot t)), z)) f)
  statement-read (continue_end {t = t} {ts = ts} {rest = rest} h f) (suc n) w =
      rw h (ended-read Closed ts rest (λ z. Some (on t.line (p.continue_of (spot t)), z)) f)
  statement-read (return_end {t = t} {ts = ts} {rest = rest} h b f) (suc n) w =
      rw (h, b) (ended-read Closed ts rest (λ z. Some (on t.line (p.return_nothing (spot t)), z)) f)
  statement-read (return_value {t = t} {ms = ms} {rest = rest} {e = e} h b d f) (suc n) w =
      rw (h, b, spells-read d n (omega arith)) (ended-read (ending e) ms rest (λ z. Some (on t.line (p.return_of (spot t) e), z)) f)

item-read : {ts r : List Token} {i : PlainItem} → Item ts i r → (n : ℕ) → item_nesting i ≤ suc n → stmts.item n (readers n) ts ≡ Some (i, r)
unfolding readers
item-read (item_statement {t = t} {ts = ts} {rest = rest} {s = s} h d) n w = item-statement n t ts s rest h (statement-read d (suc n) w)
item-read (item_function h k o d l) n w = rw (h, k, opening-read o, statements-read d n (omega arith) [], l) refl

pub items-read : {ts : List Token} {is : List PlainItem} → SpellsTree ts is → (n : ℕ) → deepest_item is ≤ suc n → (acc : List PlainItem) →
    run (stmts.items_step n (readers n)) acc ts ≡ Some (acc ++ is, [])
items-read tree_end n w acc = run-iteration (stmts.items_step n (readers n)) (items_step-short n) acc [] ∙ rw append-nil refl
items-read (tree_more {ts = ts} {ms = ms} {i = i} d f) n w acc =
    run-iteration (stmts.items_step n (readers n)) (items_step-short n) acc ts ∙
    rw (items_step-goes n acc ts i ms (item_shorter d) (item-read d n (omega arith))) (items-read f n (omega arith) (acc ++ i ∷ []) ∙ rw append_assoc refl)
