-- What the readers give is spelled, and its nesting is within the room.
use Rattle.std.proofs.Common.{◌≡◌, ℕ, zero, suc, ◌≤◌, true, false, not, List, [], ◌∷◌, ◌++◌, Option, Some, None, is_some, refl, ap, sym, subst, arith, append_assoc, append-nil}
use Rattle.std.proofs.lemmas.Bool.{and_parts, not-true}
use Rattle.js_data.proofs.Shared.{OfSome}
use Rattle.js_lexer.specs.declared.token.Token.{Token}
use Rattle.js_tree.specs.declared.tree.Name.{Name}
use Rattle.js_tree.specs.declared.tree.Operator.{Operator}
use Rattle.js_tree.specs.declared.tree.Sign.{Sign}
use Rattle.js_tree.specs.declared.tree.Step.{Step}
use Rattle.js_tree.specs.declared.tree.Fix.TheVariants.{Before, After}
use Rattle.js_tree.specs.declared.tree.DeclareKind.{DeclareKind}
use Rattle.js_tree.specs.declared.ending.Ending.TheVariants.{Closed}
use Rattle.js_tree.specs.Plain as p
use Rattle.js_tree.specs.Plain.{PlainExpr, at, PlainField, PlainPerhaps, absent, PlainDeclarator, PlainStart, PlainStmt, on, PlainItem, exprs_of, fields_of, declarators_of, stmts_of}
use Rattle.js_tree.specs.Nesting.{nesting, deepest, deepest_field, deepest_declarator, perhaps_nesting, start_nesting, stmt_nesting, deepest_stmt, item_nesting, deepest_item, one_less_if, is_object_name, is_member}
use Rattle.js_tree.specs.Endings.{ending, declarators_ending}
use Rattle.js_lexer.specs.declared.sort.Sort.{Sort}
use Rattle.js_lexer.specs.declared.sort.Sort.TheVariants.{LeftBrace, RightBrace, LeftParen, RightParen, LeftBracket, RightBracket, Dot, Semicolon, Comma, Question, Colon, Set, Function, Const, Let, Var, Return, If, Else, While, For, Break, Continue, True, False, Null}
use Rattle.js_grammar.specs.Sorts.{sort, is, spot, named, numbered, quoted, member_word, key}
use Rattle.js_grammar.specs.Operators.{operator_at, sign, step, assign_op}
use Rattle.js_grammar.specs.Arrows.{starts_arrow, starts_function}
use Rattle.js_grammar.specs.Ends.{starts_end, ends_return}
use Rattle.js_grammar.specs.Tokens.{starts, line_of, declares, sort_declare, is_const, lexical, starts_sign, starts_step, starts_update, starts_assign, starts_lexical, is_of, starts_of, starts_name_of, starts_for_of}
use Rattle.js_grammar.specs.Grammar.{Level, Primary, Calls, Operators, Choice, Assignment, Params, params_none, params_last, params_more, Header, header_name, header_params, Opening, opening, Spells, number_of, words_of, true_of, false_of, null_of, name_of, round, list_of, fields_in, function_in, calls, no_sign, signed, update_before, update_after, operators, no_choice, choice, no_assignment, assignment, function_value, function_block, Called, called_first, called_member, called_index, called_with, Operated, operated_first, operated_more, Elements, elements_none, elements_last, elements_more, Field, field_pair, field_name, Fields, fields_none, fields_last, fields_more, Declarator, declarator_value, declarator_name, Declarators, declarators_last, declarators_more, Start, start_nothing, start_declares, start_value, Perhaps, perhaps_none, perhaps_some, Test, test_of, Statements, statements_end, statements_more, Body, body_of, Statement, empty_of, block_of, declaration_of, expression_of, if_only, if_both, while_loop, for_three, for_of, break_end, continue_end, return_end, return_value, Item, item_statement, item_function, SpellsTree, tree_end, tree_more}
use Rattle.js_grammar.specs.Reading as read
use Rattle.js_grammar.specs.Expressions as exprs
use Rattle.js_grammar.specs.Statements as stmts
use Rattle.js_grammar.specs.Reading.{Iteration}
use Rattle.js_grammar.specs.Expressions.{Readers}
use Rattle.js_grammar.specs.Reader.{readers}
use Rattle.js_grammar.proofs.Marks.{is-true}
use Rattle.js_grammar.proofs.Steps.{weaker, if-gives, then-gives, after-gives, some-gives, after_some-gives, within-gives, ended-gives, IterationGives, run-gives}

abbrev pub ReadsExpr : ℕ → Level → List Token → PlainExpr → List Token → Type 0
ReadsExpr room l ts e r = Spells l ts e r × (nesting e ≤ room)

abbrev pub ReadsStmt : ℕ → List Token → PlainStmt → List Token → Type 0
ReadsStmt room ts s r = Statement ts s r × (stmt_nesting s ≤ room)

abbrev pub ReadsDeclarators : ℕ → DeclareKind → List Token → List PlainDeclarator → List Token → Type 0
ReadsDeclarators room k ts ds r = Declarators k ts ds r × (suc (deepest_declarator (declarators_of ds)) ≤ room)

-- names, with what was read before

module _ (ts : List Token) where
  abbrev ParamsSoFar : List Name → List Token → Type 0
  ParamsSoFar xs r = (zs : List Name) (m : List Token) → Params r zs m → Params ts (xs ++ zs) m

  next_param-sound : (xs : List Name) (t : Token) (x : Name) (r : List Token) → ParamsSoFar xs (t ∷ r) → named t ≡ Some x →
      OfSome (IterationGives ParamsSoFar (Params ts)) (read.next_param (xs ++ x ∷ []) r)
  next_param-sound xs t x [] i e = tt
  next_param-sound xs t x (u ∷ r) i e =
      if-gives (IterationGives ParamsSoFar (Params ts)) (is RightParen u) _ _ (λ h. i (x ∷ []) r (params_last e (is-true RightParen u h)))
      (λ _. if-gives (IterationGives ParamsSoFar (Params ts)) (is Comma u) _ _
      (λ h zs m d. rw append_assoc (i (x ∷ zs) m (params_more e (is-true Comma u h) d)))
      (λ h. tt))

  params_step-sound : (xs : List Name) (r : List Token) → ParamsSoFar xs r → OfSome (IterationGives ParamsSoFar (Params ts)) (read.params_step xs r)
  params_step-sound xs [] i = tt
  params_step-sound xs (t ∷ r) i =
      if-gives (IterationGives ParamsSoFar (Params ts)) (is RightParen t) _ _
      (λ h. let d = i [] r (params_none (is-true RightParen t h)) in rw append-nil at d)
      (λ _. some-gives (IterationGives ParamsSoFar (Params ts)) (named t) _ (λ x e. next_param-sound xs t x r i e))

  pub params-sound : OfSome (λ x. Params ts x.0 x.1) (read.params ts)
  params-sound = run-gives ParamsSoFar (Params ts) read.params_step params_step-sound [] ts (λ zs m d. d)

arrow_after-sound : (M Q : List Name → List Token → Type 0) (xs : List Name) (ts : List Token) → M xs ts →
    ((u : Token) (r : List Token) → M xs (u ∷ r) → starts_arrow (u ∷ r) ≡ true → Q xs r) → OfSome (λ x. Q x.0 x.1) (read.arrow_after xs ts)
arrow_after-sound M Q xs [] m g = tt
arrow_after-sound M Q xs (u ∷ r) m g = if-gives (λ x. Q x.0 x.1) (starts_arrow (u ∷ r)) _ _ (g u r m) (λ h. tt)

header_at-sound : (t : Token) (ts : List Token) (o : Option Name) → named t ≡ o → OfSome (λ x. Header (t ∷ ts) x.0 x.1) (read.header_at o t ts)
header_at-sound t ts (Some x) e = arrow_after-sound (λ xs r. (xs ≡ x ∷ []) × (r ≡ ts)) (λ xs r. Header (t ∷ ts) xs r) (x ∷ []) ts (refl, refl)
    (λ u r m h. let P : List Token → Type 0 = λ z. Header (t ∷ z) (x ∷ []) r in rw (← m.1) (header_name e h))
header_at-sound t ts None e =
    if-gives (λ x. Header (t ∷ ts) x.0 x.1) (is LeftParen t) _ _
    (λ k. then-gives (Params ts) (λ x. Header (t ∷ ts) x.0 x.1) (read.params ts) read.arrow_after (params-sound ts)
    (λ xs r p. arrow_after-sound (Params ts) (Header (t ∷ ts)) xs r p (λ u z m h. header_params (is-true LeftParen t k) m h)))
    (λ k. tt)

pub header-sound : (ts : List Token) → OfSome (λ x. Header ts x.0 x.1) (read.header ts)
header-sound [] = tt
header-sound (t ∷ ts) = header_at-sound t ts (named t) refl

pub opening-sound : (ts : List Token) → OfSome (λ x. Opening ts x.0 x.1) (read.opening ts)
opening-sound [] = tt
opening-sound (t ∷ ts) =
    if-gives (λ x. Opening (t ∷ ts) x.0 x.1) (is LeftParen t) _ _
    (λ h. then-gives (Params ts) (λ x. Opening (t ∷ ts) x.0 x.1) (read.params ts) _ (params-sound ts)
    (λ xs r p. after-gives (λ m. Params ts xs m) (λ x. Opening (t ∷ ts) x.0 x.1) LeftBrace r (λ m. Some (xs, m)) p
    (λ u m d k. opening (is-true LeftParen t h) d k)))
    (λ h. tt)

-- lists of trees

deepest-more : (n : ℕ) (es : List PlainExpr) (e : PlainExpr) → deepest (exprs_of es) ≤ n → nesting e ≤ n → deepest (exprs_of (es ++ e ∷ [])) ≤ n
deepest-more n [] e h k = omega arith
deepest-more n (z ∷ es) e h k = omega (arith, deepest-more n es e (omega arith) k)

deepest_field-more : (n : ℕ) (fs : List PlainField) (f : PlainField) → deepest_field (fields_of fs) ≤ n → nesting f.value ≤ n → deepest_field (fields_of (fs ++ f ∷ [])) ≤ n
deepest_field-more n [] f h k = omega arith
deepest_field-more n (z ∷ fs) f h k = omega (arith, deepest_field-more n fs f (omega arith) k)

deepest_declarator-more : (n : ℕ) (ds : List PlainDeclarator) (d : PlainDeclarator) → deepest_declarator (declarators_of ds) ≤ n → perhaps_nesting d.value ≤ n →
    deepest_declarator (declarators_of (ds ++ d ∷ [])) ≤ n
deepest_declarator-more n [] d h k = omega arith
deepest_declarator-more n (z ∷ ds) d h k = omega (arith, deepest_declarator-more n ds d (omega arith) k)

deepest_stmt-more : (n : ℕ) (ss : List PlainStmt) (s : PlainStmt) → deepest_stmt (stmts_of ss) ≤ n → stmt_nesting s ≤ n → deepest_stmt (stmts_of (ss ++ s ∷ [])) ≤ n
deepest_stmt-more n [] e h k = omega arith
deepest_stmt-more n (z ∷ es) e h k = omega (arith, deepest_stmt-more n es e (omega arith) k)

deepest_item-more : (n : ℕ) (is : List PlainItem) (i : PlainItem) → deepest_item is ≤ n → item_nesting i ≤ n → deepest_item (is ++ i ∷ []) ≤ n
deepest_item-more n [] i h k = omega arith
deepest_item-more n (z ∷ is) i h k = omega (arith, deepest_item-more n is i (omega arith) k)

one_more-sound : (t : Token) (ts r : List Token) (n : ℕ) (u : Token) (e : PlainExpr) → sort t ≡ LeftParen → ReadsExpr n Assignment ts e (u ∷ r) →
    sort u ≡ RightParen → ReadsExpr (suc n) Primary (t ∷ ts) (exprs.one_more e) r
one_more-sound t ts r n u (at p line f) h s k = (round h s.0 k, omega (arith, s.1))

-- tests that speak of one thing

sign_absent : (t : Token) (ts : List Token) → sign t ≡ None → step t ≡ None → starts_sign (t ∷ ts) ≡ false
sign_absent t ts h k = rw (h, k) refl

step_on_line : (ts : List Token) (r : List Token) (u : Token) → ts ≡ u ∷ r → starts_step ts ≡ true → u.new_line ≡ false
step_on_line [] r u e h = cc
step_on_line (v ∷ ts) r u e h = let k : starts_step (u ∷ r) ≡ true = subst (λ (x : List Token). starts_step x ≡ true) e h in not-true u.new_line (and_parts (is_some (step u)) (not u.new_line) k).1

of_third : (r m : List Token) (v w : Token) → v ∷ (w ∷ m) ≡ r → starts_for_of r ≡ true → starts_of m ≡ true
of_third r m v w e h =
    let k : starts_for_of (v ∷ (w ∷ m)) ≡ true = subst (λ (x : List Token). starts_for_of x ≡ true) (sym e) h in
    let l : starts_name_of (w ∷ m) ≡ true = (and_parts (is_some (lexical v)) (starts_name_of (w ∷ m)) k).1 in
    (and_parts (is_some (named w)) (starts_of m) l).1

pub declares-sort : (t : Token) (k : Sort) → sort t ≡ k → declares t ≡ sort_declare k
unfolding declares
declares-sort t k h = ap sort_declare h

module _ (room : ℕ) (inner : Readers)
    (by_expr : (l : Level) (ts : List Token) → OfSome (λ x. ReadsExpr room l ts x.0 x.1) (inner.expr l ts))
    (by_declarators : (k : DeclareKind) (ts : List Token) → OfSome (λ x. ReadsDeclarators room k ts x.0 x.1) (inner.declarators k ts))
    (by_stmt : (ts : List Token) → OfSome (λ x. ReadsStmt room ts x.0 x.1) (inner.stmt ts)) where
  abbrev pub AllExprs : Sort → List Token → List PlainExpr → List Token → Type 0
  AllExprs c ts es r = Elements c ts es r × (deepest (exprs_of es) ≤ room)

  abbrev ExprsSoFar : Sort → List Token → List PlainExpr → List Token → Type 0
  ExprsSoFar c ts es r = ((zs : List PlainExpr) (m : List Token) → Elements c r zs m → Elements c ts (es ++ zs) m) × (deepest (exprs_of es) ≤ room)

  next_element-sound : (c : Sort) (ts : List Token) (es : List PlainExpr) (ms : List Token) (e : PlainExpr) (r : List Token) →
      starts c ms ≡ false → ExprsSoFar c ts es ms → ReadsExpr room Assignment ms e r →
      OfSome (IterationGives (ExprsSoFar c ts) (AllExprs c ts)) (exprs.next_element room inner c (es ++ e ∷ []) r)
  next_element-sound c ts es ms e [] b i s = tt
  next_element-sound c ts es ms e (u ∷ r) b i s =
      if-gives (IterationGives (ExprsSoFar c ts) (AllExprs c ts)) (is c u) _ _
      (λ h. (i.0 (e ∷ []) r (elements_last b s.0 (is-true c u h)), deepest-more room es e i.1 s.1))
      (λ _. if-gives (IterationGives (ExprsSoFar c ts) (AllExprs c ts)) (is Comma u) _ _
      (λ h. (λ zs m d. rw append_assoc (i.0 (e ∷ zs) m (elements_more b s.0 (is-true Comma u h) d)), deepest-more room es e i.1 s.1))
      (λ h. tt))

  elements_step-sound : (c : Sort) (ts : List Token) (es : List PlainExpr) (r : List Token) → ExprsSoFar c ts es r →
      OfSome (IterationGives (ExprsSoFar c ts) (AllExprs c ts)) (exprs.elements_step room inner c es r)
  elements_step-sound c ts es [] i = tt
  elements_step-sound c ts es (t ∷ r) i =
      if-gives (IterationGives (ExprsSoFar c ts) (AllExprs c ts)) (is c t) _ _
      (λ h. let d = i.0 [] r (elements_none (is-true c t h)) in (rw append-nil at d, i.1))
      (λ h. then-gives (ReadsExpr room Assignment (t ∷ r)) (IterationGives (ExprsSoFar c ts) (AllExprs c ts)) (inner.expr Assignment (t ∷ r)) _
      (by_expr Assignment (t ∷ r)) (λ e m s. next_element-sound c ts es (t ∷ r) e m h i s))

  pub elements-sound : (c : Sort) (ts : List Token) → OfSome (λ x. AllExprs c ts x.0 x.1) (exprs.elements room inner c ts)
  elements-sound c ts = run-gives (ExprsSoFar c ts) (AllExprs c ts) (exprs.elements_step room inner c) (elements_step-sound c ts) [] ts (λ zs m d. d, omega arith)

  -- fields

  abbrev pub ReadsField : List Token → PlainField → List Token → Type 0
  ReadsField ts f r = Field ts f r × (nesting f.value ≤ room)

  pair_at-sound : (t u : Token) (ts : List Token) (x : List ℕ) → key t ≡ Some x → sort u ≡ Colon →
      OfSome (λ y. ReadsField (t ∷ (u ∷ ts)) y.0 y.1) (exprs.pair_at room inner x ts)
  pair_at-sound t u ts x h k =
      then-gives (ReadsExpr room Assignment ts) (λ y. ReadsField (t ∷ (u ∷ ts)) y.0 y.1) (inner.expr Assignment ts) _ (by_expr Assignment ts)
      (λ e r d. (field_pair h k d.0, d.1))

  field_alone-sound : (t : Token) (ts : List Token) → starts Colon ts ≡ false → OfSome (λ y. ReadsField (t ∷ ts) y.0 y.1) (exprs.field_alone room inner t ts)
  field_alone-sound t ts b =
      within-gives (λ y. ReadsField (t ∷ ts) y.0 y.1) 1 room _ (λ w.
      some-gives (λ y. ReadsField (t ∷ ts) y.0 y.1) (named t) _ (λ x h. (field_name h b, w)))

  pub field_at-sound : (t : Token) (ts : List Token) → OfSome (λ y. ReadsField (t ∷ ts) y.0 y.1) (exprs.field_at room inner t ts)
  field_at-sound t [] = field_alone-sound t [] refl
  field_at-sound t (u ∷ ts) =
      if-gives (λ y. ReadsField (t ∷ (u ∷ ts)) y.0 y.1) (is Colon u) _ _
      (λ b. some-gives (λ y. ReadsField (t ∷ (u ∷ ts)) y.0 y.1) (key t) _ (λ x h. pair_at-sound t u ts x h (is-true Colon u b)))
      (λ b. field_alone-sound t (u ∷ ts) b)

  abbrev pub AllFields : List Token → List PlainField → List Token → Type 0
  AllFields ts fs r = Fields ts fs r × (deepest_field (fields_of fs) ≤ room)

  abbrev FieldsSoFar : List Token → List PlainField → List Token → Type 0
  FieldsSoFar ts fs r = ((zs : List PlainField) (m : List Token) → Fields r zs m → Fields ts (fs ++ zs) m) × (deepest_field (fields_of fs) ≤ room)

  next_field-sound : (ts : List Token) (fs : List PlainField) (ms : List Token) (f : PlainField) (r : List Token) →
      starts RightBrace ms ≡ false → FieldsSoFar ts fs ms → ReadsField ms f r →
      OfSome (IterationGives (FieldsSoFar ts) (AllFields ts)) (exprs.next_field room inner (fs ++ f ∷ []) r)
  next_field-sound ts fs ms f [] b i s = tt
  next_field-sound ts fs ms f (u ∷ r) b i s =
      if-gives (IterationGives (FieldsSoFar ts) (AllFields ts)) (is RightBrace u) _ _
      (λ h. (i.0 (f ∷ []) r (fields_last b s.0 (is-true RightBrace u h)), deepest_field-more room fs f i.1 s.1))
      (λ _. if-gives (IterationGives (FieldsSoFar ts) (AllFields ts)) (is Comma u) _ _
      (λ h. (λ zs m d. rw append_assoc (i.0 (f ∷ zs) m (fields_more b s.0 (is-true Comma u h) d)), deepest_field-more room fs f i.1 s.1))
      (λ h. tt))

  fields_step-sound : (ts : List Token) (fs : List PlainField) (r : List Token) → FieldsSoFar ts fs r →
      OfSome (IterationGives (FieldsSoFar ts) (AllFields ts)) (exprs.fields_step room inner fs r)
  fields_step-sound ts fs [] i = tt
  fields_step-sound ts fs (t ∷ r) i =
      if-gives (IterationGives (FieldsSoFar ts) (AllFields ts)) (is RightBrace t) _ _
      (λ h. let d = i.0 [] r (fields_none (is-true RightBrace t h)) in (rw append-nil at d, i.1))
      (λ h. then-gives (ReadsField (t ∷ r)) (IterationGives (FieldsSoFar ts) (AllFields ts)) (exprs.field_at room inner t r) _
      (field_at-sound t r) (λ f m s. next_field-sound ts fs (t ∷ r) f m h i s))

  pub fields-sound : (ts : List Token) → OfSome (λ x. AllFields ts x.0 x.1) (exprs.fields room inner ts)
  fields-sound ts = run-gives (FieldsSoFar ts) (AllFields ts) (exprs.fields_step room inner) (fields_step-sound ts) [] ts (λ zs m d. d, omega arith)

  -- declarators

  abbrev pub ReadsDeclarator : DeclareKind → List Token → PlainDeclarator → List Token → Type 0
  ReadsDeclarator k ts d r = Declarator k ts d r × (perhaps_nesting d.value ≤ room)

  value_at-sound : (k : DeclareKind) (t : Token) (ts : List Token) (x : Name) → named t ≡ Some x →
      OfSome (λ y. ReadsDeclarator k (t ∷ ts) y.0 y.1) (exprs.value_at room inner (record { name = x; value = absent; end = t.to }) k x ts)
  value_at-sound k t [] x h =
      if-gives (λ y. ReadsDeclarator k (t ∷ []) y.0 y.1) (is_const k) _ _ (λ b. tt) (λ b. (declarator_name h refl b, omega arith))
  value_at-sound k t (u ∷ ts) x h =
      if-gives (λ y. ReadsDeclarator k (t ∷ (u ∷ ts)) y.0 y.1) (is Set u) _ _
      (λ b. then-gives (ReadsExpr room Assignment ts) (λ y. ReadsDeclarator k (t ∷ (u ∷ ts)) y.0 y.1) (inner.expr Assignment ts) _ (by_expr Assignment ts)
      (λ e r d. (declarator_value h (is-true Set u b) d.0, d.1)))
      (λ b. if-gives (λ y. ReadsDeclarator k (t ∷ (u ∷ ts)) y.0 y.1) (is_const k) _ _ (λ c. tt) (λ c. (declarator_name h b c, omega arith)))

  pub declarator-sound : (k : DeclareKind) (ts : List Token) → OfSome (λ y. ReadsDeclarator k ts y.0 y.1) (exprs.declarator room inner k ts)
  declarator-sound k [] = tt
  declarator-sound k (t ∷ ts) = some-gives (λ y. ReadsDeclarator k (t ∷ ts) y.0 y.1) (named t) _ (λ x h. value_at-sound k t ts x h)

  abbrev pub AllDeclarators : DeclareKind → List Token → List PlainDeclarator → List Token → Type 0
  AllDeclarators k ts ds r = Declarators k ts ds r × (deepest_declarator (declarators_of ds) ≤ room)

  abbrev DeclaratorsSoFar : DeclareKind → List Token → List PlainDeclarator → List Token → Type 0
  DeclaratorsSoFar k ts ds r = ((zs : List PlainDeclarator) (m : List Token) → Declarators k r zs m → Declarators k ts (ds ++ zs) m) × (deepest_declarator (declarators_of ds) ≤ room)

  next_declarator-sound : (k : DeclareKind) (ts : List Token) (ds : List PlainDeclarator) (ms : List Token) (d : PlainDeclarator) (r : List Token) →
      DeclaratorsSoFar k ts ds ms → ReadsDeclarator k ms d r →
      OfSome (IterationGives (DeclaratorsSoFar k ts) (AllDeclarators k ts)) (exprs.next_declarator room inner (ds ++ d ∷ []) r)
  next_declarator-sound k ts ds ms d [] i s = (i.0 (d ∷ []) [] (declarators_last s.0 refl), deepest_declarator-more room ds d i.1 s.1)
  next_declarator-sound k ts ds ms d (u ∷ r) i s =
      if-gives (IterationGives (DeclaratorsSoFar k ts) (AllDeclarators k ts)) (is Comma u) _ _
      (λ h. (λ zs m l. rw append_assoc (i.0 (d ∷ zs) m (declarators_more s.0 (is-true Comma u h) l)), deepest_declarator-more room ds d i.1 s.1))
      (λ h. (i.0 (d ∷ []) (u ∷ r) (declarators_last s.0 h), deepest_declarator-more room ds d i.1 s.1))

  declarators_step-sound : (k : DeclareKind) (ts : List Token) (ds : List PlainDeclarator) (r : List Token) → DeclaratorsSoFar k ts ds r →
      OfSome (IterationGives (DeclaratorsSoFar k ts) (AllDeclarators k ts)) (exprs.declarators_step room inner k ds r)
  declarators_step-sound k ts ds r i =
      then-gives (ReadsDeclarator k r) (IterationGives (DeclaratorsSoFar k ts) (AllDeclarators k ts)) (exprs.declarator room inner k r) _
      (declarator-sound k r) (λ d m s. next_declarator-sound k ts ds r d m i s)

  pub declarators-sound : (k : DeclareKind) (ts : List Token) → OfSome (λ x. AllDeclarators k ts x.0 x.1) (exprs.declarators_of_kind room inner k ts)
  declarators-sound k ts = run-gives (DeclaratorsSoFar k ts) (AllDeclarators k ts) (exprs.declarators_step room inner k) (declarators_step-sound k ts) [] ts (λ zs m d. d, omega arith)

  -- statements in a list

  abbrev pub AllStmts : List Token → List PlainStmt → List Token → Type 0
  AllStmts ts ss r = Statements ts ss r × (deepest_stmt (stmts_of ss) ≤ room)

  abbrev StmtsSoFar : List Token → List PlainStmt → List Token → Type 0
  StmtsSoFar ts ss r = ((zs : List PlainStmt) (m : List Token) → Statements r zs m → Statements ts (ss ++ zs) m) × (deepest_stmt (stmts_of ss) ≤ room)

  statements_step-sound : (ts : List Token) (ss : List PlainStmt) (r : List Token) → StmtsSoFar ts ss r →
      OfSome (IterationGives (StmtsSoFar ts) (AllStmts ts)) (exprs.statements_step room inner ss r)
  statements_step-sound ts ss r i =
      if-gives (IterationGives (StmtsSoFar ts) (AllStmts ts)) (starts_end r) _ _
      (λ h. let d = i.0 [] r (statements_end h) in (rw append-nil at d, i.1))
      (λ h. then-gives (ReadsStmt room r) (IterationGives (StmtsSoFar ts) (AllStmts ts)) (inner.stmt r) _ (by_stmt r)
      (λ s m d. (λ zs l k. rw append_assoc (i.0 (s ∷ zs) l (statements_more h d.0 k)), deepest_stmt-more room ss s i.1 d.1)))

  pub statements-sound : (ts : List Token) → OfSome (λ x. AllStmts ts x.0 x.1) (exprs.statements room inner ts)
  statements-sound ts = run-gives (StmtsSoFar ts) (AllStmts ts) (exprs.statements_step room inner) (statements_step-sound ts) [] ts (λ zs m d. d, omega arith)

  record ClosedStmts (ts : List Token) (ss : List PlainStmt) (r : List Token) : Type 0 where
    brace : Token
    listed : Statements ts ss (brace ∷ r)
    closes : sort brace ≡ RightBrace
    fits : deepest_stmt (stmts_of ss) ≤ room

  closed-sound : (ts : List Token) → OfSome (λ x. ClosedStmts ts x.0 x.1) (exprs.closed_statements room inner ts)
  closed-sound ts =
      then-gives (AllStmts ts) (λ x. ClosedStmts ts x.0 x.1) (exprs.statements room inner ts) _ (statements-sound ts) (λ ss r s.
      after-gives (λ z. AllStmts ts ss z) (λ x. ClosedStmts ts x.0 x.1) RightBrace r (λ m. Some (ss, m)) s
      (λ u l d k. record { brace = u; listed = d.0; closes = k; fits = d.1 }))

  -- expressions

  abbrev Expr : Level → List Token → PlainExpr × List Token → Type 0
  Expr l ts x = ReadsExpr (suc room) l ts x.0 x.1

  primary_at-sound : (t : Token) (ts : List Token) (k : Sort) → sort t ≡ k → OfSome (Expr Primary (t ∷ ts)) (exprs.primary_at room inner k t ts)
  primary_at-sound t ts Sort.Number e = some-gives (Expr Primary (t ∷ ts)) (numbered t) _ (λ n h. (number_of h, omega arith))
  primary_at-sound t ts Sort.Text e = some-gives (Expr Primary (t ∷ ts)) (quoted t) _ (λ n h. (words_of h, omega arith))
  primary_at-sound t ts Sort.Name e = some-gives (Expr Primary (t ∷ ts)) (named t) _ (λ n h. (name_of h, omega arith))
  primary_at-sound t ts True e = (true_of e, omega arith)
  primary_at-sound t ts False e = (false_of e, omega arith)
  primary_at-sound t ts Null e = (null_of e, omega arith)
  primary_at-sound t ts LeftParen e =
      then-gives (ReadsExpr room Assignment ts) (Expr Primary (t ∷ ts)) (inner.expr Assignment ts) _ (by_expr Assignment ts)
      (λ a r s. after-gives (λ m. ReadsExpr room Assignment ts a m) (Expr Primary (t ∷ ts)) RightParen r _ s
      (λ u m d h. one_more-sound t ts m room u a e d h))
  primary_at-sound t ts LeftBracket e =
      then-gives (AllExprs RightBracket ts) (Expr Primary (t ∷ ts)) (exprs.elements room inner RightBracket ts) _ (elements-sound RightBracket ts)
      (λ es r s. (list_of e s.0, omega (arith, s.1)))
  primary_at-sound t ts LeftBrace e =
      then-gives (AllFields ts) (Expr Primary (t ∷ ts)) (exprs.fields room inner ts) _ (fields-sound ts)
      (λ fs r s. (fields_in e s.0, omega (arith, s.1)))
  primary_at-sound t ts Function e =
      then-gives (Opening ts) (Expr Primary (t ∷ ts)) (read.opening ts) _ (opening-sound ts) (λ xs r o.
      then-gives (ClosedStmts r) (Expr Primary (t ∷ ts)) (exprs.closed_statements room inner r) _ (closed-sound r)
      (λ ss m s. (function_in e o s.listed s.closes, omega (arith, s.fits))))
  primary_at-sound t ts _ e = tt

  primary-sound : (ts : List Token) → OfSome (Expr Primary ts) (exprs.primary room inner ts)
  primary-sound [] = tt
  primary-sound (t ∷ ts) = primary_at-sound t ts (sort t) refl

  abbrev SoFar : List Token → PlainExpr → List Token → Type 0
  SoFar ts e r = Called ts e r × (nesting e ≤ suc room)

  abbrev CallIteration : List Token → Iteration PlainExpr → Type 0
  CallIteration ts = IterationGives (SoFar ts) (λ a m. Expr Calls ts (a, m))

  called_at-sound : (ts : List Token) (e : PlainExpr) (t : Token) (r : List Token) (k : Sort) → sort t ≡ k → SoFar ts e (t ∷ r) →
      OfSome (CallIteration ts) (exprs.called_at room inner (line_of ts) e k (t ∷ r) r)
  called_at-sound ts e t r Dot h i =
      within-gives (CallIteration ts) (one_less_if (is_object_name e) (nesting e)) room _ (λ w.
      after_some-gives (λ m. Called ts e (t ∷ m)) (CallIteration ts) member_word r _ i.0
      (λ u x m d k. (called_member d h k, omega (arith, w))))
  called_at-sound ts e t r LeftBracket h i =
      within-gives (CallIteration ts) (nesting e) room _ (λ w.
      then-gives (ReadsExpr room Assignment r) (CallIteration ts) (inner.expr Assignment r) _ (by_expr Assignment r) (λ a m s.
      after-gives (λ z. ReadsExpr room Assignment r a z) (CallIteration ts) RightBracket m _ s
      (λ u l d k. (called_index i.0 h d.0 k, omega (arith, w, d.1)))))
  called_at-sound ts e t r LeftParen h i =
      within-gives (CallIteration ts) (one_less_if (is_member e) (nesting e)) room _ (λ w.
      then-gives (AllExprs RightParen r) (CallIteration ts) (exprs.elements room inner RightParen r) _ (elements-sound RightParen r)
      (λ es m s. (called_with i.0 h s.0, omega (arith, w, s.1))))
  called_at-sound ts e t r _ h i = (calls i.0 (rw h refl), i.1)

  called_step-sound : (ts : List Token) (e : PlainExpr) (r : List Token) → SoFar ts e r →
      OfSome (CallIteration ts) (exprs.called_step room inner (line_of ts) e r)
  called_step-sound ts e [] i = (calls i.0 refl, i.1)
  called_step-sound ts e (t ∷ r) i = called_at-sound ts e t r (sort t) refl i

  called-sound : (ts : List Token) → OfSome (Expr Calls ts) (exprs.called room inner ts)
  called-sound ts =
      then-gives (ReadsExpr (suc room) Primary ts) (Expr Calls ts) (exprs.primary room inner ts) _ (primary-sound ts) (λ e r s.
      run-gives (SoFar ts) (λ a m. Expr Calls ts (a, m)) (exprs.called_step room inner (line_of ts)) (called_step-sound ts) e r (called_first s.0, s.1))

  -- unary and postfix

  postfix_at-sound : (t : Token) (ts : List Token) → starts_update (t ∷ ts) ≡ true → OfSome (Expr (Operators 0) (t ∷ ts)) (read.postfix_at t ts)
  postfix_at-sound t ts b =
      some-gives (Expr (Operators 0) (t ∷ ts)) (named t) _ (λ x h.
      after_some-gives (λ m. ts ≡ m) (Expr (Operators 0) (t ∷ ts)) step ts _ refl (λ u s r q k. (
        subst (λ y. Spells (Operators 0) (t ∷ y) (at 0 t.line (p.update s After x)) r) (sym q)
            (update_after h k (step_on_line ts r u q (and_parts (is_some (named t)) (starts_step ts) b).1)),
        omega arith,
      )))

  step_at-sound : (t : Token) (ts : List Token) (o : Option Step) → sign t ≡ None → step t ≡ o → OfSome (Expr (Operators 0) (t ∷ ts)) (exprs.step_at room inner o t ts)
  step_at-sound t ts None g h =
      if-gives (Expr (Operators 0) (t ∷ ts)) (starts_update (t ∷ ts)) _ _ (postfix_at-sound t ts)
      (λ b. weaker (Expr Calls (t ∷ ts)) (Expr (Operators 0) (t ∷ ts)) (exprs.called room inner (t ∷ ts)) (called-sound (t ∷ ts))
      (λ x s. (no_sign (sign_absent t ts g h) b s.0, s.1)))
  step_at-sound t ts (Some s) g h =
      after_some-gives (λ m. ts ≡ m) (Expr (Operators 0) (t ∷ ts)) named ts _ refl (λ u x r q k.
      (subst (λ y. Spells (Operators 0) (t ∷ y) (at 0 t.line (p.update s Before x)) r) (sym q) (update_before h k), omega arith))

  unary_at-sound : (t : Token) (ts : List Token) (o : Option Sign) → sign t ≡ o → OfSome (Expr (Operators 0) (t ∷ ts)) (exprs.unary_at room inner o t ts)
  unary_at-sound t ts None h = step_at-sound t ts (step t) h refl
  unary_at-sound t ts (Some s) h =
      then-gives (ReadsExpr room (Operators 0) ts) (Expr (Operators 0) (t ∷ ts)) (inner.expr (Operators 0) ts) _ (by_expr (Operators 0) ts)
      (λ e r d. (signed h d.0, omega (arith, d.1)))

  signed-sound : (ts : List Token) → OfSome (Expr (Operators 0) ts) (exprs.signed room inner ts)
  signed-sound [] = tt
  signed-sound (t ∷ ts) = unary_at-sound t ts (sign t) refl

  -- binary

  abbrev Operands : ℕ → List Token → PlainExpr → List Token → Type 0
  Operands k ts e r = Operated k ts e r × (nesting e ≤ suc room)

  abbrev OperatorIteration : ℕ → List Token → Iteration PlainExpr → Type 0
  OperatorIteration k ts = IterationGives (Operands k ts) (λ e m. Expr (Operators (suc k)) ts (e, m))

  operated_at-sound : (k : ℕ) (ts : List Token) (a : PlainExpr) (t : Token) (r : List Token) (o : Option Operator) → operator_at k t ≡ o →
      Operands k ts a (t ∷ r) → OfSome (OperatorIteration k ts) (exprs.operated_at room inner (line_of ts) k a o (t ∷ r) r)
  operated_at-sound k ts a t r None h i = (operators i.0 (rw h refl), i.1)
  operated_at-sound k ts a t r (Some op) h i =
      within-gives (OperatorIteration k ts) (nesting a) room _ (λ w.
      then-gives (ReadsExpr room (Operators k) r) (OperatorIteration k ts) (inner.expr (Operators k) r) _ (by_expr (Operators k) r)
      (λ b m s. (operated_more i.0 h s.0, omega (arith, w, s.1))))

  operated_step-sound : (k : ℕ) (ts : List Token) (a : PlainExpr) (r : List Token) → Operands k ts a r →
      OfSome (OperatorIteration k ts) (exprs.operated_step room inner (line_of ts) k a r)
  operated_step-sound k ts a [] i = (operators i.0 refl, i.1)
  operated_step-sound k ts a (t ∷ r) i = operated_at-sound k ts a t r (operator_at k t) refl i

  operators-sound : (k : ℕ) (ts : List Token) → OfSome (Expr (Operators k) ts) (exprs.operators room inner k ts)
  operators-sound zero ts = signed-sound ts
  operators-sound (suc k) ts =
      then-gives (ReadsExpr (suc room) (Operators k) ts) (Expr (Operators (suc k)) ts) (exprs.operators room inner k ts) _ (operators-sound k ts) (λ e r s.
      run-gives (Operands k ts) (λ a m. Expr (Operators (suc k)) ts (a, m)) (exprs.operated_step room inner (line_of ts) k) (operated_step-sound k ts) e r (operated_first s.0, s.1))

  choice_after-sound : (ts : List Token) (a : PlainExpr) (r : List Token) → ReadsExpr (suc room) (Operators 6) ts a r → OfSome (Expr Choice ts) (exprs.choice_after room inner (line_of ts) a r)
  choice_after-sound ts a [] s = (no_choice s.0 refl, s.1)
  choice_after-sound ts a (t ∷ r) s =
      if-gives (Expr Choice ts) (is Question t) _ _
      (λ h. within-gives (Expr Choice ts) (nesting a) room _ (λ w.
      then-gives (ReadsExpr room Assignment r) (Expr Choice ts) (inner.expr Assignment r) _ (by_expr Assignment r) (λ b m d.
      after-gives (λ z. ReadsExpr room Assignment r b z) (Expr Choice ts) Colon m _ d (λ u l d' k.
      then-gives (ReadsExpr room Assignment l) (Expr Choice ts) (inner.expr Assignment l) _ (by_expr Assignment l) (λ c z f.
      (choice s.0 (is-true Question t h) d'.0 k f.0, omega (arith, w, d'.1, f.1)))))))
      (λ h. (no_choice s.0 h, s.1))

  choice-sound : (ts : List Token) → OfSome (Expr Choice ts) (exprs.choice room inner ts)
  choice-sound ts = then-gives (ReadsExpr (suc room) (Operators 6) ts) (Expr Choice ts) (exprs.operators room inner 6 ts) _ (operators-sound 6 ts) (choice_after-sound ts)

  -- assignment and arrow functions

  body-sound : (t : Token) (ts : List Token) → starts_function (t ∷ ts) ≡ true → (xs : List Name) (r : List Token) → Header (t ∷ ts) xs r →
      OfSome (Expr Assignment (t ∷ ts)) (exprs.body room inner t xs r)
  body-sound t ts b xs [] d = tt
  body-sound t ts b xs (u ∷ r) d =
      if-gives (Expr Assignment (t ∷ ts)) (is LeftBrace u) _ _
      (λ h. then-gives (ClosedStmts r) (Expr Assignment (t ∷ ts)) (exprs.closed_statements room inner r) _ (closed-sound r)
      (λ ss m s. (function_block b d (is-true LeftBrace u h) s.listed s.closes, omega (arith, s.fits))))
      (λ h. then-gives (ReadsExpr room Assignment (u ∷ r)) (Expr Assignment (t ∷ ts)) (inner.expr Assignment (u ∷ r)) _ (by_expr Assignment (u ∷ r))
      (λ e m s. (function_value b d h s.0, omega (arith, s.1))))

  assign_at-sound : (t : Token) (ts : List Token) → OfSome (Expr Assignment (t ∷ ts)) (exprs.assign_at room inner t ts)
  assign_at-sound t ts =
      some-gives (Expr Assignment (t ∷ ts)) (named t) _ (λ x h.
      after_some-gives (λ m. ts ≡ m) (Expr Assignment (t ∷ ts)) assign_op ts _ refl (λ u op m q k.
      then-gives (ReadsExpr room Assignment m) (Expr Assignment (t ∷ ts)) (inner.expr Assignment m) _ (by_expr Assignment m) (λ e r d.
      (subst (λ y. Spells Assignment (t ∷ y) (at 0 t.line (p.assign op x e)) r) (sym q) (assignment h k d.0), omega (arith, d.1)))))

  assignment-sound : (ts : List Token) → OfSome (Expr Assignment ts) (exprs.assignment room inner ts)
  assignment-sound [] = tt
  assignment-sound (t ∷ ts) =
      if-gives (Expr Assignment (t ∷ ts)) (starts_function (t ∷ ts)) _ _
      (λ h. then-gives (Header (t ∷ ts)) (Expr Assignment (t ∷ ts)) (read.header (t ∷ ts)) _ (header-sound (t ∷ ts)) (body-sound t ts h))
      (λ h. if-gives (Expr Assignment (t ∷ ts)) (starts_assign (t ∷ ts)) _ _ (λ k. assign_at-sound t ts)
      (λ k. weaker (Expr Choice (t ∷ ts)) (Expr Assignment (t ∷ ts)) (exprs.choice room inner (t ∷ ts)) (choice-sound (t ∷ ts)) (λ x s. (no_assignment h k s.0, s.1))))

  level-sound : (l : Level) (ts : List Token) → OfSome (Expr l ts) (exprs.level room inner l ts)
  level-sound Primary ts = primary-sound ts
  level-sound Calls ts = called-sound ts
  level-sound (Operators k) ts = operators-sound k ts
  level-sound Choice ts = choice-sound ts
  level-sound Assignment ts = assignment-sound ts

  -- statements

  abbrev Stmt : List Token → PlainStmt × List Token → Type 0
  Stmt ts x = ReadsStmt (suc room) ts x.0 x.1

  abbrev ReadsBody : List Token → PlainStmt → List Token → Type 0
  ReadsBody ts s r = Body ts s r × (stmt_nesting s ≤ room)

  abbrev ReadsTest : List Token → PlainExpr → List Token → Type 0
  ReadsTest ts e r = Test ts e r × (nesting e ≤ room)

  body_at-sound : (ts : List Token) → OfSome (λ x. ReadsBody ts x.0 x.1) (stmts.body_at room inner ts)
  body_at-sound ts =
      if-gives (λ x. ReadsBody ts x.0 x.1) (starts_lexical ts) _ _ (λ b. tt)
      (λ b. weaker (λ x. ReadsStmt room ts x.0 x.1) (λ x. ReadsBody ts x.0 x.1) (inner.stmt ts) (by_stmt ts) (λ x s. (body_of b s.0, s.1)))

  test-sound : (ts : List Token) → OfSome (λ x. ReadsTest ts x.0 x.1) (stmts.test room inner ts)
  test-sound [] = tt
  test-sound (t ∷ ts) =
      if-gives (λ x. ReadsTest (t ∷ ts) x.0 x.1) (is LeftParen t) _ _
      (λ h. then-gives (ReadsExpr room Assignment ts) (λ x. ReadsTest (t ∷ ts) x.0 x.1) (inner.expr Assignment ts) _ (by_expr Assignment ts)
      (λ e r s. after-gives (λ m. ReadsExpr room Assignment ts e m) (λ x. ReadsTest (t ∷ ts) x.0 x.1) RightParen r (λ m. Some (e, m)) s
      (λ u m d k. (test_of (is-true LeftParen t h) d.0 k, d.1))))
      (λ h. tt)

  else_after-sound : (t : Token) (ts ms : List Token) (e : PlainExpr) → sort t ≡ If → ReadsTest ts e ms →
      (s : PlainStmt) (r : List Token) → ReadsBody ms s r → OfSome (Stmt (t ∷ ts)) (stmts.else_after room inner t.line e s r)
  else_after-sound t ts ms e h d s [] f = (if_only h d.0 f.0 refl, omega (arith, d.1, f.1))
  else_after-sound t ts ms e h d s (w ∷ r) f =
      if-gives (Stmt (t ∷ ts)) (is Else w) _ _
      (λ b. then-gives (ReadsBody r) (Stmt (t ∷ ts)) (stmts.body_at room inner r) _ (body_at-sound r)
      (λ z l g. (if_both h d.0 f.0 (is-true Else w b) g.0, omega (arith, d.1, f.1, g.1))))
      (λ b. (if_only h d.0 f.0 b, omega (arith, d.1, f.1)))

  declaration_at-sound : (t : Token) (ts : List Token) (k : DeclareKind) → declares t ≡ Some k → OfSome (Stmt (t ∷ ts)) (stmts.declaration_at room inner t.line k ts)
  declaration_at-sound t ts k h =
      then-gives (AllDeclarators k ts) (Stmt (t ∷ ts)) (exprs.declarators_of_kind room inner k ts) _ (declarators-sound k ts) (λ ds l d.
      ended-gives (Stmt (t ∷ ts)) (declarators_ending ds) l (λ z. Some (on t.line (p.declaration k (declarators_of ds)), z))
      (λ z f. (declaration_of h d.0 f, omega (arith, d.1))))

  -- `for`

  abbrev ReadsStart : List Token → PlainStart → List Token → Type 0
  ReadsStart ts s r = Start ts s r × (start_nesting s ≤ room)

  start_at-sound : (t : Token) (ts : List Token) (o : Option DeclareKind) → is Semicolon t ≡ false → declares t ≡ o → OfSome (λ x. ReadsStart (t ∷ ts) x.0 x.1) (stmts.start_at room inner o t ts)
  start_at-sound t ts None b h =
      then-gives (ReadsExpr room Assignment (t ∷ ts)) (λ x. ReadsStart (t ∷ ts) x.0 x.1) (inner.expr Assignment (t ∷ ts)) _ (by_expr Assignment (t ∷ ts))
      (λ e r d. (start_value b (rw h refl) d.0, d.1))
  start_at-sound t ts (Some k) b h =
      then-gives (ReadsDeclarators room k ts) (λ x. ReadsStart (t ∷ ts) x.0 x.1) (inner.declarators k ts) _ (by_declarators k ts)
      (λ ds r d. (start_declares h d.0, d.1))

  start-sound : (ts : List Token) → OfSome (λ x. ReadsStart ts x.0 x.1) (stmts.start room inner ts)
  start-sound [] = tt
  start-sound (t ∷ ts) =
      if-gives (λ x. ReadsStart (t ∷ ts) x.0 x.1) (is Semicolon t) _ _ (λ h. (start_nothing h, omega arith))
      (λ h. start_at-sound t ts (declares t) h refl)

  abbrev ReadsPerhaps : Sort → List Token → PlainPerhaps → List Token → Type 0
  ReadsPerhaps c ts e r = Perhaps c ts e r × (perhaps_nesting e ≤ room)

  perhaps-sound : (c : Sort) (ts : List Token) → OfSome (λ x. ReadsPerhaps c ts x.0 x.1) (stmts.perhaps room inner c ts)
  perhaps-sound c ts =
      if-gives (λ x. ReadsPerhaps c ts x.0 x.1) (starts c ts) _ _ (λ h. (perhaps_none h, omega arith))
      (λ h. then-gives (ReadsExpr room Assignment ts) (λ x. ReadsPerhaps c ts x.0 x.1) (inner.expr Assignment ts) _ (by_expr Assignment ts)
      (λ e r d. (perhaps_some h d.0, d.1)))

  for_three_at-sound : (t u : Token) (ts : List Token) → sort t ≡ For → sort u ≡ LeftParen → starts_for_of ts ≡ false →
      OfSome (Stmt (t ∷ (u ∷ ts))) (stmts.for_three_at room inner t.line ts)
  for_three_at-sound t u ts h i b =
      then-gives (ReadsStart ts) (Stmt (t ∷ (u ∷ ts))) (stmts.start room inner ts) _ (start-sound ts) (λ first r s.
      after-gives (λ m. ReadsStart ts first m) (Stmt (t ∷ (u ∷ ts))) Semicolon r _ s (λ v ms s' j.
      then-gives (ReadsPerhaps Semicolon ms) (Stmt (t ∷ (u ∷ ts))) (stmts.perhaps room inner Semicolon ms) _ (perhaps-sound Semicolon ms) (λ e l d.
      after-gives (λ m. ReadsPerhaps Semicolon ms e m) (Stmt (t ∷ (u ∷ ts))) Semicolon l _ d (λ w ns d' k.
      then-gives (ReadsPerhaps RightParen ns) (Stmt (t ∷ (u ∷ ts))) (stmts.perhaps room inner RightParen ns) _ (perhaps-sound RightParen ns) (λ next m f.
      after-gives (λ z. ReadsPerhaps RightParen ns next z) (Stmt (t ∷ (u ∷ ts))) RightParen m _ f (λ x ls f' l'.
      then-gives (ReadsBody ls) (Stmt (t ∷ (u ∷ ts))) (stmts.body_at room inner ls) _ (body_at-sound ls) (λ z o g.
      (for_three h i b s'.0 j d'.0 k f'.0 l' g.0, omega (arith, s'.1, d'.1, f'.1, g.1)))))))))

  of_at-sound : (t u v w x : Token) (ts : List Token) (k : DeclareKind) (n : Name) → sort t ≡ For → sort u ≡ LeftParen → lexical v ≡ Some k → named w ≡ Some n → is_of x ≡ true →
      OfSome (Stmt (t ∷ (u ∷ (v ∷ (w ∷ (x ∷ ts)))))) (stmts.of_at room inner t.line k n ts)
  of_at-sound t u v w x ts k n h i j l o =
      then-gives (ReadsExpr room Assignment ts) (Stmt (t ∷ (u ∷ (v ∷ (w ∷ (x ∷ ts)))))) (inner.expr Assignment ts) _ (by_expr Assignment ts) (λ e r d.
      after-gives (λ m. ReadsExpr room Assignment ts e m) (Stmt (t ∷ (u ∷ (v ∷ (w ∷ (x ∷ ts)))))) RightParen r _ d (λ y m d' g.
      then-gives (ReadsBody m) (Stmt (t ∷ (u ∷ (v ∷ (w ∷ (x ∷ ts)))))) (stmts.body_at room inner m) _ (body_at-sound m) (λ s z f.
      (for_of h i j l o d'.0 g f.0, omega (arith, d'.1, f.1)))))

  of_behind-sound : (t u v w : Token) (ms : List Token) (k : DeclareKind) (n : Name) → sort t ≡ For → sort u ≡ LeftParen → lexical v ≡ Some k → named w ≡ Some n → starts_of ms ≡ true →
      OfSome (Stmt (t ∷ (u ∷ (v ∷ (w ∷ ms))))) (stmts.of_at room inner t.line k n (read.tail ms))
  of_behind-sound t u v w [] k n h i j l o = cc
  of_behind-sound t u v w (x ∷ ts) k n h i j l o = of_at-sound t u v w x ts k n h i j l o

  for_of_at-sound : (t u : Token) (ts : List Token) → sort t ≡ For → sort u ≡ LeftParen → starts_for_of ts ≡ true →
      OfSome (Stmt (t ∷ (u ∷ ts))) (stmts.for_of_at room inner t.line ts)
  for_of_at-sound t u ts h i b =
      after_some-gives (λ m. m ≡ ts) (Stmt (t ∷ (u ∷ ts))) lexical ts _ refl (λ v k r q j.
      after_some-gives (λ m. v ∷ m ≡ ts) (Stmt (t ∷ (u ∷ ts))) named r _ q (λ w n m q' l.
      subst (λ y. OfSome (Stmt (t ∷ (u ∷ y))) (stmts.of_at room inner t.line k n (read.tail m))) q'
      (of_behind-sound t u v w m k n h i j l (of_third ts m v w q' b))))

  for_at-sound : (t : Token) (ts : List Token) → sort t ≡ For → OfSome (Stmt (t ∷ ts)) (stmts.for_at room inner t.line ts)
  for_at-sound t [] h = tt
  for_at-sound t (u ∷ ts) h =
      if-gives (Stmt (t ∷ (u ∷ ts))) (is LeftParen u) _ _
      (λ i. if-gives (Stmt (t ∷ (u ∷ ts))) (starts_for_of ts) _ _ (for_of_at-sound t u ts h (is-true LeftParen u i)) (for_three_at-sound t u ts h (is-true LeftParen u i)))
      (λ i. tt)

  statement_at-sound : (t : Token) (ts : List Token) (k : Sort) → sort t ≡ k → OfSome (Stmt (t ∷ ts)) (stmts.statement_at room inner k t ts)
  statement_at-sound t ts Semicolon e = (empty_of e, omega arith)
  statement_at-sound t ts LeftBrace e =
      then-gives (ClosedStmts ts) (Stmt (t ∷ ts)) (exprs.closed_statements room inner ts) _ (closed-sound ts)
      (λ ss m s. (block_of e s.listed s.closes, omega (arith, s.fits)))
  statement_at-sound t ts Function e = tt
  statement_at-sound t ts Const e = declaration_at-sound t ts _ (declares-sort t Const e)
  statement_at-sound t ts Let e = declaration_at-sound t ts _ (declares-sort t Let e)
  statement_at-sound t ts Var e = declaration_at-sound t ts _ (declares-sort t Var e)
  statement_at-sound t ts If e =
      then-gives (ReadsTest ts) (Stmt (t ∷ ts)) (stmts.test room inner ts) _ (test-sound ts) (λ a m d.
      then-gives (ReadsBody m) (Stmt (t ∷ ts)) (stmts.body_at room inner m) _ (body_at-sound m) (λ s z f. else_after-sound t ts m a e d s z f))
  statement_at-sound t ts While e =
      then-gives (ReadsTest ts) (Stmt (t ∷ ts)) (stmts.test room inner ts) _ (test-sound ts) (λ a m d.
      then-gives (ReadsBody m) (Stmt (t ∷ ts)) (stmts.body_at room inner m) _ (body_at-sound m) (λ s z f. (while_loop e d.0 f.0, omega (arith, d.1, f.1))))
  statement_at-sound t ts For e = for_at-sound t ts e
  statement_at-sound t ts Break e = ended-gives (Stmt (t ∷ ts)) Closed ts (λ z. Some (on t.line (p.break_of (spot t)), z)) (λ z f. (break_end e f, omega arith))
  statement_at-sound t ts Continue e = ended-gives (Stmt (t ∷ ts)) Closed ts (λ z. Some (on t.line (p.continue_of (spot t)), z)) (λ z f. (continue_end e f, omega arith))
  statement_at-sound t ts Return e =
      if-gives (Stmt (t ∷ ts)) (ends_return ts) _ _
      (λ b. ended-gives (Stmt (t ∷ ts)) Closed ts (λ z. Some (on t.line (p.return_nothing (spot t)), z)) (λ z f. (return_end e b f, omega arith)))
      (λ b. then-gives (ReadsExpr room Assignment ts) (Stmt (t ∷ ts)) (inner.expr Assignment ts) _ (by_expr Assignment ts) (λ a l d.
      ended-gives (Stmt (t ∷ ts)) (ending a) l (λ z. Some (on t.line (p.return_of (spot t) a), z)) (λ z f. (return_value e b d.0 f, omega (arith, d.1)))))
  statement_at-sound t ts _ e =
      then-gives (ReadsExpr room Assignment (t ∷ ts)) (Stmt (t ∷ ts)) (inner.expr Assignment (t ∷ ts)) _ (by_expr Assignment (t ∷ ts)) (λ a l d.
      ended-gives (Stmt (t ∷ ts)) (ending a) l (λ z. Some (on t.line (p.expression a), z)) (λ z f. (expression_of (rw e refl) d.0 f, omega (arith, d.1))))

  statement-sound : (ts : List Token) → OfSome (Stmt ts) (stmts.statement room inner ts)
  statement-sound [] = tt
  statement-sound (t ∷ ts) = statement_at-sound t ts (sort t) refl

  -- what a program lists

  abbrev pub ReadsItem : List Token → PlainItem → List Token → Type 0
  ReadsItem ts i r = Item ts i r × (item_nesting i ≤ suc room)

  item_function_at-sound : (t : Token) (ts : List Token) → sort t ≡ Function → OfSome (λ x. ReadsItem (t ∷ ts) x.0 x.1) (stmts.item_function_at room inner t ts)
  item_function_at-sound t ts e =
      after_some-gives (λ m. m ≡ ts) (λ x. ReadsItem (t ∷ ts) x.0 x.1) named ts _ refl (λ u x r q h.
      then-gives (Opening r) (λ x. ReadsItem (t ∷ ts) x.0 x.1) (read.opening r) _ (opening-sound r) (λ xs m o.
      then-gives (ClosedStmts m) (λ x. ReadsItem (t ∷ ts) x.0 x.1) (exprs.closed_statements room inner m) _ (closed-sound m)
      (λ ss z s. (subst (λ y. Item (t ∷ y) (p.function_of (spot t) x xs (stmts_of ss)) z) q (item_function e h o s.listed s.closes), omega (arith, s.fits)))))

  pub item-sound : (ts : List Token) → OfSome (λ x. ReadsItem ts x.0 x.1) (stmts.item room inner ts)
  item-sound [] = tt
  item-sound (t ∷ ts) =
      if-gives (λ x. ReadsItem (t ∷ ts) x.0 x.1) (is Function t) _ _ (λ h. item_function_at-sound t ts (is-true Function t h))
      (λ h. then-gives (ReadsStmt (suc room) (t ∷ ts)) (λ x. ReadsItem (t ∷ ts) x.0 x.1) (stmts.statement room inner (t ∷ ts)) _ (statement-sound (t ∷ ts))
      (λ s r d. (item_statement h d.0, d.1)))

  pub record AllItems (ts : List Token) (is : List PlainItem) (r : List Token) : Type 0 where
    pub spelled : SpellsTree ts is
    pub fits : deepest_item is ≤ suc room

  abbrev ItemsSoFar : List Token → List PlainItem → List Token → Type 0
  ItemsSoFar ts is r = ((zs : List PlainItem) → SpellsTree r zs → SpellsTree ts (is ++ zs)) × (deepest_item is ≤ suc room)

  items_step-sound : (ts : List Token) (is : List PlainItem) (r : List Token) → ItemsSoFar ts is r →
      OfSome (IterationGives (ItemsSoFar ts) (AllItems ts)) (stmts.items_step room inner is r)
  items_step-sound ts is [] i = let d = i.0 [] tree_end in record { spelled = (rw append-nil at d); fits = i.1 }
  items_step-sound ts is (t ∷ r) i =
      then-gives (ReadsItem (t ∷ r)) (IterationGives (ItemsSoFar ts) (AllItems ts)) (stmts.item room inner (t ∷ r)) _ (item-sound (t ∷ r))
      (λ x m d. (λ zs k. rw append_assoc (i.0 (x ∷ zs) (tree_more d.0 k)), deepest_item-more (suc room) is x i.1 d.1))

  pub items-sound : (ts : List Token) → OfSome (λ x. AllItems ts x.0 x.1) (stmts.items room inner ts)
  items-sound ts = run-gives (ItemsSoFar ts) (AllItems ts) (stmts.items_step room inner) (items_step-sound ts) [] ts (λ zs d. d, omega arith)

-- what the readers with this much room give is spelled, and its nesting is within the room
pub record AreSound (room : ℕ) : Type 0 where
  pub expr : (l : Level) (ts : List Token) → OfSome (λ x. ReadsExpr room l ts x.0 x.1) ((readers room).expr l ts)
  pub declarators : (k : DeclareKind) (ts : List Token) → OfSome (λ x. ReadsDeclarators room k ts x.0 x.1) ((readers room).declarators k ts)
  pub stmt : (ts : List Token) → OfSome (λ x. ReadsStmt room ts x.0 x.1) ((readers room).stmt ts)

declared_in : (room : ℕ) (inner : Readers) (k : DeclareKind) (ts : List Token) →
    OfSome (λ x. Declarators k ts x.0 x.1 × (deepest_declarator (declarators_of x.0) ≤ room)) (exprs.declarators_of_kind room inner k ts) →
    OfSome (λ x. ReadsDeclarators (suc room) k ts x.0 x.1) (exprs.declarators_of_kind room inner k ts)
declared_in room inner k ts h =
    weaker (λ x. Declarators k ts x.0 x.1 × (deepest_declarator (declarators_of x.0) ≤ room)) (λ x. ReadsDeclarators (suc room) k ts x.0 x.1)
    (exprs.declarators_of_kind room inner k ts) h (λ x s. (s.0, omega (arith, s.1)))

pub readers-sound : (room : ℕ) → AreSound room
unfolding readers
readers-sound zero = record { expr = λ l ts. tt; declarators = λ k ts. tt; stmt = λ ts. tt }
readers-sound (suc n) =
    let i = readers-sound n in
    record {
      expr = level-sound n (readers n) i.expr i.declarators i.stmt;
      declarators = λ k ts. declared_in n (readers n) k ts (declarators-sound n (readers n) i.expr i.declarators i.stmt k ts);
      stmt = statement-sound n (readers n) i.expr i.declarators i.stmt;
    }
