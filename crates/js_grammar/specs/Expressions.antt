-- What reading an expression token by token gives, one level of nesting over what reads its parts.
use Rattle.std.specs.Prelude.{ℕ, zero, suc, true, false, List, [], ◌∷◌, ◌++◌, Option, Some, None, if◌then◌else◌}
use Rattle.js_lexer.specs.declared.token.Token.{Token}
use Rattle.js_tree.specs.declared.tree.Name.{Name}
use Rattle.js_tree.specs.declared.tree.Operator.{Operator}
use Rattle.js_tree.specs.declared.tree.Sign.{Sign}
use Rattle.js_tree.specs.declared.tree.Step.{Step}
use Rattle.js_tree.specs.declared.tree.Fix.TheVariants.{Before}
use Rattle.js_tree.specs.declared.tree.DeclareKind.{DeclareKind}
use Rattle.js_tree.specs.Plain as p
use Rattle.js_tree.specs.Plain.{PlainExpr, at, PlainField, absent, present, PlainDeclarator, PlainStmt, exprs_of, fields_of, stmts_of}
use Rattle.js_tree.specs.Nesting.{nesting, one_less_if, is_object_name, is_member}
use Rattle.js_lexer.specs.declared.sort.Sort.{Sort}
use Rattle.js_lexer.specs.declared.sort.Sort.TheVariants.{LeftBrace, RightBrace, LeftParen, RightParen, LeftBracket, RightBracket, Dot, Comma, Question, Colon, Set, Function, True, False, Null}
use Rattle.js_grammar.specs.Sorts.{sort, is, spot, named, member_word, key}
use Rattle.js_grammar.specs.Operators.{operator_at, sign, step, assign_op}
use Rattle.js_grammar.specs.Arrows.{starts_function}
use Rattle.js_grammar.specs.Ends.{starts_end}
use Rattle.js_grammar.specs.Tokens.{starts, line_of, end_before, is_const, starts_update, starts_assign}
use Rattle.js_grammar.specs.Grammar.{Level, Primary, Calls, Operators, Choice, Assignment}
use Rattle.js_grammar.specs.Reading.{Found, and_then, if_some, tail, after, after_some, within, Iteration, run, header, opening, number_at, text_at, use_at, postfix_at, again, done}

-- readers of what has less nesting
pub record Readers : Type 0 where
  pub expr : Level → List Token → Found PlainExpr
  pub declarators : DeclareKind → List Token → Found (List PlainDeclarator)
  pub stmt : List Token → Found PlainStmt

abbrev pub one_more : PlainExpr → PlainExpr
one_more (at n line form) = at (suc n) line form

-- one level of nesting, over what reads the parts; these have at most the room
module _ (room : ℕ) (inner : Readers) where
  abbrev pub next_element : Sort → List PlainExpr → List Token → Option (Iteration (List PlainExpr))
  next_element c es [] = None
  next_element c es (t ∷ ts) = if is c t then Some (done es ts)
      else (if is Comma t then Some (again es ts) else None)

  abbrev pub elements_step : Sort → List PlainExpr → List Token →
      Option (Iteration (List PlainExpr))
  elements_step c es [] = None
  elements_step c es (t ∷ ts) = if is c t then Some (done es ts)
      else and_then (inner.expr Assignment (t ∷ ts)) (λ e r. next_element c (es ++ e ∷ []) r)

  abbrev pub elements : Sort → List Token → Found (List PlainExpr)
  elements c ts = run (elements_step c) [] ts

  abbrev pub pair_at : List ℕ → List Token → Found PlainField
  pair_at x ts = and_then (inner.expr Assignment ts) (λ e r. Some (record { key = x; value = e }, r))

  -- a name alone
  abbrev pub field_alone : Token → List Token → Found PlainField
  field_alone t ts =
      within 1 room (if_some (named t)
      (λ x. Some (record { key = x.text; value = at 0 t.line (p.use_of x) }, ts)))

  abbrev pub field_at : Token → List Token → Found PlainField
  field_at t ts = if starts Colon ts then if_some (key t) (λ x. pair_at x (tail ts))
      else field_alone t ts

  abbrev pub next_field : List PlainField → List Token → Option (Iteration (List PlainField))
  next_field fs [] = None
  next_field fs (t ∷ ts) = if is RightBrace t then Some (done fs ts)
      else (if is Comma t then Some (again fs ts) else None)

  abbrev pub fields_step : List PlainField → List Token → Option (Iteration (List PlainField))
  fields_step fs [] = None
  fields_step fs (t ∷ ts) = if is RightBrace t then Some (done fs ts)
      else and_then (field_at t ts) (λ f r. next_field (fs ++ f ∷ []) r)

  abbrev pub fields : List Token → Found (List PlainField)
  fields ts = run fields_step [] ts

  abbrev pub value_at : PlainDeclarator → DeclareKind → Name → List Token → Found PlainDeclarator
  value_at alone k x [] = if is_const k then None else Some (alone, [])
  value_at alone k x (t ∷ ts) = if is Set t
      then and_then (inner.expr Assignment ts)
      (λ e r. Some (record { name = x; value = present e; end = end_before ts r }, r))
      else (if is_const k then None else Some (alone, t ∷ ts))

  abbrev pub declarator_at : DeclareKind → Token → List Token → Found PlainDeclarator
  declarator_at k t ts =
      if_some (named t) (λ x. value_at (record { name = x; value = absent; end = t.to }) k x ts)

  abbrev pub declarator : DeclareKind → List Token → Found PlainDeclarator
  declarator k [] = None
  declarator k (t ∷ ts) = declarator_at k t ts

  abbrev pub next_declarator : List PlainDeclarator → List Token →
      Option (Iteration (List PlainDeclarator))
  next_declarator ds [] = Some (done ds [])
  next_declarator ds (t ∷ ts) = if is Comma t then Some (again ds ts) else Some (done ds (t ∷ ts))

  abbrev pub declarators_step : DeclareKind → List PlainDeclarator → List Token →
      Option (Iteration (List PlainDeclarator))
  declarators_step k ds ts = and_then (declarator k ts) (λ d r. next_declarator (ds ++ d ∷ []) r)

  abbrev pub declarators_of_kind : DeclareKind → List Token → Found (List PlainDeclarator)
  declarators_of_kind k ts = run (declarators_step k) [] ts

  abbrev pub statements_step : List PlainStmt → List Token → Option (Iteration (List PlainStmt))
  statements_step ss ts = if starts_end ts then Some (done ss ts)
      else and_then (inner.stmt ts) (λ s r. Some (again (ss ++ s ∷ []) r))

  abbrev pub statements : List Token → Found (List PlainStmt)
  statements ts = run statements_step [] ts

  -- statements, and `}`
  abbrev pub closed_statements : List Token → Found (List PlainStmt)
  closed_statements ts = and_then (statements ts) (λ ss r. after RightBrace r (λ m. Some (ss, m)))

  abbrev pub round_at : List Token → Found PlainExpr
  round_at ts = and_then (inner.expr Assignment ts)
      (λ e r. after RightParen r (λ m. Some (one_more e, m)))

  abbrev pub function_at : Token → List Token → Found PlainExpr
  function_at t ts =
      and_then (opening ts) (λ xs r. and_then (closed_statements r)
      (λ ss m. Some (at 0 t.line (p.function (spot t) xs (stmts_of ss)), m)))

  abbrev pub primary_at : Sort → Token → List Token → Found PlainExpr
  primary_at Sort.Number t ts = number_at t ts
  primary_at Sort.Text t ts = text_at t ts
  primary_at Sort.Name t ts = use_at t ts
  primary_at True t ts = Some (at 0 t.line (p.truth true), ts)
  primary_at False t ts = Some (at 0 t.line (p.truth false), ts)
  primary_at Null t ts = Some (at 0 t.line p.null, ts)
  primary_at LeftParen t ts = round_at ts
  primary_at LeftBracket t ts =
      and_then (elements RightBracket ts) (λ es r. Some (at 0 t.line (p.list (exprs_of es)), r))
  primary_at LeftBrace t ts =
      and_then (fields ts) (λ fs r. Some (at 0 t.line (p.fields (fields_of fs)), r))
  primary_at Function t ts = function_at t ts
  primary_at _ t ts = None

  abbrev pub primary : List Token → Found PlainExpr
  primary [] = None
  primary (t ∷ ts) = primary_at (sort t) t ts

  abbrev pub member_iteration : ℕ → PlainExpr → List Token → Option (Iteration PlainExpr)
  member_iteration line e ts =
      within (one_less_if (is_object_name e) (nesting e)) room
      (after_some member_word ts (λ x r. Some (again (at 0 line (p.member e x)) r)))

  abbrev pub index_iteration : ℕ → PlainExpr → List Token → Option (Iteration PlainExpr)
  index_iteration line e ts =
      within (nesting e) room (and_then (inner.expr Assignment ts)
      (λ i r. after RightBracket r (λ m. Some (again (at 0 line (p.index e i)) m))))

  abbrev pub call_iteration : ℕ → PlainExpr → List Token → Option (Iteration PlainExpr)
  call_iteration line e ts =
      within (one_less_if (is_member e) (nesting e)) room
      (and_then (elements RightParen ts) (λ es r. Some (again (at 0 line (p.call e (exprs_of es))) r)))

  abbrev pub called_at : ℕ → PlainExpr → Sort → List Token → List Token →
      Option (Iteration PlainExpr)
  called_at line e Dot all ts = member_iteration line e ts
  called_at line e LeftBracket all ts = index_iteration line e ts
  called_at line e LeftParen all ts = call_iteration line e ts
  called_at line e _ all ts = Some (done e all)

  abbrev pub called_step : ℕ → PlainExpr → List Token → Option (Iteration PlainExpr)
  called_step line e [] = Some (done e [])
  called_step line e (t ∷ ts) = called_at line e (sort t) (t ∷ ts) ts

  abbrev pub called : List Token → Found PlainExpr
  called ts = and_then (primary ts) (run (called_step (line_of ts)))

  abbrev pub unstepped : Token → List Token → Found PlainExpr
  unstepped t ts = if starts_update (t ∷ ts) then postfix_at t ts else called (t ∷ ts)

  abbrev pub step_at : Option Step → Token → List Token → Found PlainExpr
  step_at None t ts = unstepped t ts
  step_at (Some s) t ts = after_some named ts (λ x r. Some (at 0 t.line (p.update s Before x), r))

  abbrev pub unary_at : Option Sign → Token → List Token → Found PlainExpr
  unary_at None t ts = step_at (step t) t ts
  unary_at (Some s) t ts = and_then (inner.expr (Operators 0) ts)
      (λ e r. Some (at 0 t.line (p.unary s e), r))

  abbrev pub signed : List Token → Found PlainExpr
  signed [] = None
  signed (t ∷ ts) = unary_at (sign t) t ts

  abbrev pub operated_at : ℕ → ℕ → PlainExpr → Option Operator → List Token → List Token →
      Option (Iteration PlainExpr)
  operated_at line k a None all ts = Some (done a all)
  operated_at line k a (Some op) all ts =
      within (nesting a) room (and_then (inner.expr (Operators k) ts)
      (λ b r. Some (again (at 0 line (p.binary op a b)) r)))

  abbrev pub operated_step : ℕ → ℕ → PlainExpr → List Token → Option (Iteration PlainExpr)
  operated_step line k a [] = Some (done a [])
  operated_step line k a (t ∷ ts) = operated_at line k a (operator_at k t) (t ∷ ts) ts

  abbrev pub operators : ℕ → List Token → Found PlainExpr
  operators zero ts = signed ts
  operators (suc k) ts = and_then (operators k ts) (run (operated_step (line_of ts) k))

  abbrev pub choice_after : ℕ → PlainExpr → List Token → Found PlainExpr
  choice_after line a [] = Some (a, [])
  choice_after line a (t ∷ ts) = if is Question t
      then within (nesting a) room (and_then (inner.expr Assignment ts)
      (λ b r. after Colon r
      (λ m. and_then (inner.expr Assignment m) (λ c l. Some (at 0 line (p.conditional a b c), l)))))
      else Some (a, t ∷ ts)

  abbrev pub choice : List Token → Found PlainExpr
  choice ts = and_then (operators 6 ts) (choice_after (line_of ts))

  abbrev pub body : Token → List Name → List Token → Found PlainExpr
  body t xs [] = None
  body t xs (u ∷ ts) = if is LeftBrace u
      then and_then (closed_statements ts)
      (λ ss m. Some (at 0 t.line (p.arrow_block (spot t) xs (stmts_of ss)), m))
      else and_then (inner.expr Assignment (u ∷ ts))
      (λ e r. Some (at 0 t.line (p.arrow_value (spot t) xs e), r))

  abbrev pub arrow : Token → List Token → Found PlainExpr
  arrow t ts = and_then (header (t ∷ ts)) (body t)

  abbrev pub assign_at : Token → List Token → Found PlainExpr
  assign_at t ts =
      if_some (named t) (λ x. after_some assign_op ts
      (λ op m. and_then (inner.expr Assignment m) (λ e r. Some (at 0 t.line (p.assign op x e), r))))

  abbrev pub assignment : List Token → Found PlainExpr
  assignment [] = None
  assignment (t ∷ ts) = if starts_function (t ∷ ts) then arrow t ts
      else (if starts_assign (t ∷ ts) then assign_at t ts else choice (t ∷ ts))

  abbrev pub level : Level → List Token → Found PlainExpr
  level Primary ts = primary ts
  level Calls ts = called ts
  level (Operators k) ts = operators k ts
  level Choice ts = choice ts
  level Assignment ts = assignment ts
