-- What reading statements token by token gives, one level of nesting over what reads their parts.
use Rattle.std.specs.Prelude.{ℕ, List, [], ◌∷◌, ◌++◌, Option, Some, None, if◌then◌else◌}
use Rattle.js_lexer.specs.declared.token.Token.{Token}
use Rattle.js_tree.specs.declared.tree.Name.{Name}
use Rattle.js_tree.specs.declared.tree.DeclareKind.{DeclareKind}
use Rattle.js_tree.specs.declared.ending.Ending.TheVariants.{Closed}
use Rattle.js_tree.specs.Plain as p
use Rattle.js_tree.specs.Plain.{PlainExpr, PlainPerhaps, absent, present, PlainStart, PlainStmt, on, PlainItem, declarators_of, stmts_of}
use Rattle.js_tree.specs.Endings.{ending, declarators_ending}
use Rattle.js_lexer.specs.declared.sort.Sort.{Sort}
use Rattle.js_lexer.specs.declared.sort.Sort.TheVariants.{LeftBrace, LeftParen, RightParen, Semicolon, Function, Const, Let, Var, Return, If, Else, While, For, Break, Continue}
use Rattle.js_grammar.specs.Sorts.{sort, is, spot, named}
use Rattle.js_grammar.specs.Ends.{ends_return}
use Rattle.js_grammar.specs.Tokens.{starts, declares, lexical, starts_lexical, starts_for_of}
use Rattle.js_grammar.specs.Grammar.{Assignment}
use Rattle.js_grammar.specs.Reading.{Found, and_then, tail, after, after_some, Iteration, run, ended, opening, break_at, continue_at, again, done}
use Rattle.js_grammar.specs.Expressions.{Readers, declarators_of_kind, closed_statements}

-- one level of nesting, over what reads the parts; these have at most the room
module _ (room : ℕ) (inner : Readers) where
  abbrev pub body_at : List Token → Found PlainStmt
  body_at ts = if starts_lexical ts then None else inner.stmt ts

  abbrev pub test : List Token → Found PlainExpr
  test ts = after LeftParen ts (λ r. and_then (inner.expr Assignment r)
      (λ e m. after RightParen m (λ l. Some (e, l))))

  abbrev pub else_after : ℕ → PlainExpr → PlainStmt → List Token → Found PlainStmt
  else_after line e s [] = Some (on line (p.if_alone e s), [])
  else_after line e s (t ∷ ts) =
      if is Else t then and_then (body_at ts) (λ z r. Some (on line (p.if_else e s z), r))
      else Some (on line (p.if_alone e s), t ∷ ts)

  abbrev pub block_at : ℕ → List Token → Found PlainStmt
  block_at line ts = and_then (closed_statements room inner ts)
      (λ ss m. Some (on line (p.block (stmts_of ss)), m))

  abbrev pub declaration_at : ℕ → DeclareKind → List Token → Found PlainStmt
  declaration_at line k ts = and_then (declarators_of_kind room inner k ts)
      (λ ds l. ended (declarators_ending ds) l
      (λ z. Some (on line (p.declaration k (declarators_of ds)), z)))

  abbrev pub if_at : ℕ → List Token → Found PlainStmt
  if_at line ts = and_then (test ts) (λ e l. and_then (body_at l) (else_after line e))

  abbrev pub while_at : ℕ → List Token → Found PlainStmt
  while_at line ts =
      and_then (test ts) (λ e l. and_then (body_at l) (λ s z. Some (on line (p.while_of e s), z)))

  abbrev pub start_at : Option DeclareKind → Token → List Token → Found PlainStart
  start_at None t ts = and_then (inner.expr Assignment (t ∷ ts)) (λ e r. Some (p.started e, r))
  start_at (Some k) t ts = and_then (inner.declarators k ts)
      (λ ds r. Some (p.declared t.line k (declarators_of ds), r))

  abbrev pub start : List Token → Found PlainStart
  start [] = None
  start (t ∷ ts) = if is Semicolon t then Some (p.nothing, t ∷ ts) else start_at (declares t) t ts

  abbrev pub perhaps : Sort → List Token → Found PlainPerhaps
  perhaps c ts = if starts c ts then Some (absent, ts)
      else and_then (inner.expr Assignment ts) (λ e r. Some (present e, r))

  abbrev pub for_three_at : ℕ → List Token → Found PlainStmt
  for_three_at line ts =
      and_then (start ts) (λ first r. after Semicolon r (λ ms. and_then (perhaps Semicolon ms) (λ e l.
      after Semicolon l (λ ns. and_then (perhaps RightParen ns)
      (λ next m. after RightParen m (λ ls. and_then (body_at ls) (λ s z.
      Some (on line (p.for_three first e next s), z))))))))

  -- after `of`
  abbrev pub of_at : ℕ → DeclareKind → Name → List Token → Found PlainStmt
  of_at line k x ts = and_then (inner.expr Assignment ts)
      (λ e r. after RightParen r
      (λ m. and_then (body_at m) (λ s z. Some (on line (p.for_of k x e s), z))))

  abbrev pub for_of_at : ℕ → List Token → Found PlainStmt
  for_of_at line ts = after_some lexical ts (λ k r. after_some named r (λ x m. of_at line k x (tail m)))

  abbrev pub for_at : ℕ → List Token → Found PlainStmt
  for_at line ts =
      after LeftParen ts (λ r. if starts_for_of r then for_of_at line r else for_three_at line r)

  abbrev pub return_at : Token → List Token → Found PlainStmt
  return_at t ts = if ends_return ts
      then ended Closed ts (λ z. Some (on t.line (p.return_nothing (spot t)), z))
      else and_then (inner.expr Assignment ts)
      (λ e l. ended (ending e) l (λ z. Some (on t.line (p.return_of (spot t) e), z)))

  abbrev pub expression_at : Token → List Token → Found PlainStmt
  expression_at t ts = and_then (inner.expr Assignment (t ∷ ts))
      (λ e l. ended (ending e) l (λ z. Some (on t.line (p.expression e), z)))

  abbrev pub statement_at : Sort → Token → List Token → Found PlainStmt
  statement_at Semicolon t ts = Some (on t.line p.empty, ts)
  statement_at LeftBrace t ts = block_at t.line ts
  statement_at Function t ts = None
  statement_at Const t ts = declaration_at t.line DeclareKind.Const ts
  statement_at Let t ts = declaration_at t.line DeclareKind.Let ts
  statement_at Var t ts = declaration_at t.line DeclareKind.Var ts
  statement_at If t ts = if_at t.line ts
  statement_at While t ts = while_at t.line ts
  statement_at For t ts = for_at t.line ts
  statement_at Break t ts = break_at t ts
  statement_at Continue t ts = continue_at t ts
  statement_at Return t ts = return_at t ts
  statement_at _ t ts = expression_at t ts

  abbrev pub statement : List Token → Found PlainStmt
  statement [] = None
  statement (t ∷ ts) = statement_at (sort t) t ts

  -- a function declaration, after its word; its statements are the parts
  abbrev pub item_function_at : Token → List Token → Found PlainItem
  item_function_at t ts =
      after_some named ts (λ x r. and_then (opening r)
      (λ xs m. and_then (closed_statements room inner m)
      (λ ss z. Some (p.function_of (spot t) x xs (stmts_of ss), z))))

  abbrev pub item : List Token → Found PlainItem
  item [] = None
  item (t ∷ ts) = if is Function t then item_function_at t ts
      else and_then (statement (t ∷ ts)) (λ s r. Some (p.statement (spot t) s, r))

  abbrev pub items_step : List PlainItem → List Token → Option (Iteration (List PlainItem))
  items_step is [] = Some (done is [])
  items_step is (t ∷ ts) = and_then (item (t ∷ ts)) (λ i r. Some (again (is ++ i ∷ []) r))

  -- all tokens
  abbrev pub items : List Token → Found (List PlainItem)
  items ts = run items_step [] ts
