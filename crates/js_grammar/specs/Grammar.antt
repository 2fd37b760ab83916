-- The grammar: which tokens spell a tree, and what follows.
use Rattle.std.specs.Prelude.{ℕ, suc, ℤ, ◌≡◌, true, false, List, [], ◌∷◌, Some}
use Rattle.js_lexer.specs.declared.token.Token.{Token}
use Rattle.js_tree.specs.declared.tree.Name.{Name}
use Rattle.js_tree.specs.declared.tree.Operator.{Operator}
use Rattle.js_tree.specs.declared.tree.AssignOp.{AssignOp}
use Rattle.js_tree.specs.declared.tree.Sign.{Sign}
use Rattle.js_tree.specs.declared.tree.Step.{Step}
use Rattle.js_tree.specs.declared.tree.Fix.TheVariants.{Before, After}
use Rattle.js_tree.specs.declared.tree.DeclareKind.{DeclareKind}
use Rattle.js_tree.specs.declared.ending.Ending.{Ending}
use Rattle.js_tree.specs.declared.ending.Ending.TheVariants.{Closed}
use Rattle.js_tree.specs.Plain as p
use Rattle.js_tree.specs.Plain.{PlainExpr, at, PlainForm, PlainField, PlainPerhaps, absent, present, PlainDeclarator, PlainStart, PlainStmt, on, PlainItem, exprs_of, fields_of, declarators_of, stmts_of}
use Rattle.js_tree.specs.Endings.{ending, declarators_ending}
use Rattle.js_lexer.specs.declared.sort.Sort.{Sort}
use Rattle.js_lexer.specs.declared.sort.Sort.TheVariants.{LeftBrace, RightBrace, LeftParen, RightParen, LeftBracket, RightBracket, Dot, Semicolon, Comma, Question, Colon, Set, Function, Return, If, Else, While, For, Break, Continue, True, False, Null}
use Rattle.js_grammar.specs.Sorts.{sort, spot, named, numbered, quoted, member_word, key, is}
use Rattle.js_grammar.specs.Operators.{operator_at, starts_operator, sign, step, assign_op}
use Rattle.js_grammar.specs.Arrows.{starts_arrow, starts_function}
use Rattle.js_grammar.specs.Ends.{starts_end, end_absent, ends_return, starts_other}
use Rattle.js_grammar.specs.Tokens.{starts, line_of, end_before, declares, is_const, lexical, starts_sign, starts_update, starts_call, starts_assign, starts_lexical, starts_declaration, is_of, starts_for_of}

-- the levels of precedence; `Operators 0` is what stands between the tightest binary operators,
-- `Operators 6` has the loosest ones
pub data Level : Type 0 where
  Primary : Level
  Calls : Level
  Operators : ℕ → Level
  Choice : Level
  Assignment : Level

-- names separated by commas, and `)`
pub data Params : List Token → List Name → List Token → Type 0 where
  params_none : {t : Token} {rest : List Token} → sort t ≡ RightParen → Params (t ∷ rest) [] rest
  params_last : {t u : Token} {rest : List Token} {x : Name} → named t ≡ Some x → sort u ≡ RightParen →
      Params (t ∷ (u ∷ rest)) (x ∷ []) rest
  params_more : {t u : Token} {ts rest : List Token} {x : Name} {xs : List Name} →
      named t ≡ Some x → sort u ≡ Comma → Params ts xs rest → Params (t ∷ (u ∷ ts)) (x ∷ xs) rest

-- the parameters of an arrow function, and `=>`
pub data Header : List Token → List Name → List Token → Type 0 where
  header_name : {t u : Token} {rest : List Token} {x : Name} → named t ≡ Some x →
      starts_arrow (u ∷ rest) ≡ true → Header (t ∷ (u ∷ rest)) (x ∷ []) rest
  header_params : {t u : Token} {ts rest : List Token} {xs : List Name} →
      sort t ≡ LeftParen → Params ts xs (u ∷ rest) → starts_arrow (u ∷ rest) ≡ true →
      Header (t ∷ ts) xs rest

-- the parameters in parentheses, and `{`
pub data Opening : List Token → List Name → List Token → Type 0 where
  opening : {t u : Token} {ts rest : List Token} {xs : List Name} →
      sort t ≡ LeftParen → Params ts xs (u ∷ rest) → sort u ≡ LeftBrace → Opening (t ∷ ts) xs rest

-- `;`, or its absence after what ends so
pub data End : Ending → List Token → List Token → Type 0 where
  end_mark : {ends : Ending} {t : Token} {rest : List Token} → sort t ≡ Semicolon →
      End ends (t ∷ rest) rest
  end_none : {ends : Ending} {rest : List Token} → end_absent ends rest ≡ true → End ends rest rest

mutual
  pub data Spells : Level → List Token → PlainExpr → List Token → Type 0 where
    -- primary
    number_of : {t : Token} {rest : List Token} {n : ℤ} → numbered t ≡ Some n →
        Spells Primary (t ∷ rest) (at 0 t.line (p.number n)) rest
    words_of : {t : Token} {rest : List Token} {x : List ℕ} → quoted t ≡ Some x →
        Spells Primary (t ∷ rest) (at 0 t.line (p.text x)) rest
    true_of : {t : Token} {rest : List Token} → sort t ≡ True →
        Spells Primary (t ∷ rest) (at 0 t.line (p.truth true)) rest
    false_of : {t : Token} {rest : List Token} → sort t ≡ False →
        Spells Primary (t ∷ rest) (at 0 t.line (p.truth false)) rest
    null_of : {t : Token} {rest : List Token} → sort t ≡ Null →
        Spells Primary (t ∷ rest) (at 0 t.line p.null) rest
    name_of : {t : Token} {rest : List Token} {x : Name} → named t ≡ Some x →
        Spells Primary (t ∷ rest) (at 0 t.line (p.use_of x)) rest
    round : {t u : Token} {ts rest : List Token} {n line : ℕ} {f : PlainForm} →
        sort t ≡ LeftParen → Spells Assignment ts (at n line f) (u ∷ rest) → sort u ≡ RightParen →
        Spells Primary (t ∷ ts) (at (suc n) line f) rest
    list_of : {t : Token} {ts rest : List Token} {es : List PlainExpr} →
        sort t ≡ LeftBracket → Elements RightBracket ts es rest →
        Spells Primary (t ∷ ts) (at 0 t.line (p.list (exprs_of es))) rest
    fields_in : {t : Token} {ts rest : List Token} {fs : List PlainField} →
        sort t ≡ LeftBrace → Fields ts fs rest →
        Spells Primary (t ∷ ts) (at 0 t.line (p.fields (fields_of fs))) rest
    function_in : {t u : Token} {ts ms rest : List Token} {xs : List Name} {ss : List PlainStmt} →
        sort t ≡ Function → Opening ts xs ms → Statements ms ss (u ∷ rest) → sort u ≡ RightBrace →
        Spells Primary (t ∷ ts) (at 0 t.line (p.function (spot t) xs (stmts_of ss))) rest
    -- calls
    calls : {ts rest : List Token} {e : PlainExpr} → Called ts e rest → starts_call rest ≡ false →
        Spells Calls ts e rest
    -- unary and postfix
    no_sign : {ts rest : List Token} {e : PlainExpr} →
        starts_sign ts ≡ false → starts_update ts ≡ false → Spells Calls ts e rest →
        Spells (Operators 0) ts e rest
    signed : {t : Token} {ts rest : List Token} {s : Sign} {e : PlainExpr} →
        sign t ≡ Some s → Spells (Operators 0) ts e rest →
        Spells (Operators 0) (t ∷ ts) (at 0 t.line (p.unary s e)) rest
    update_before : {t u : Token} {rest : List Token} {s : Step} {x : Name} →
        step t ≡ Some s → named u ≡ Some x →
        Spells (Operators 0) (t ∷ (u ∷ rest)) (at 0 t.line (p.update s Before x)) rest
    update_after : {t u : Token} {rest : List Token} {s : Step} {x : Name} →
        named t ≡ Some x → step u ≡ Some s → u.new_line ≡ false →
        Spells (Operators 0) (t ∷ (u ∷ rest)) (at 0 t.line (p.update s After x)) rest
    -- binary
    operators : {k : ℕ} {ts rest : List Token} {e : PlainExpr} →
        Operated k ts e rest → starts_operator k rest ≡ false → Spells (Operators (suc k)) ts e rest
    -- conditional
    no_choice : {ts rest : List Token} {e : PlainExpr} → Spells (Operators 6) ts e rest →
        starts Question rest ≡ false → Spells Choice ts e rest
    choice : {t u : Token} {ts ms ns rest : List Token} {a b c : PlainExpr} →
        Spells (Operators 6) ts a (t ∷ ms) → sort t ≡ Question → Spells Assignment ms b (u ∷ ns) →
        sort u ≡ Colon →
        Spells Assignment ns c rest → Spells Choice ts (at 0 (line_of ts) (p.conditional a b c)) rest
    -- assignment and arrow functions
    no_assignment : {ts rest : List Token} {e : PlainExpr} →
        starts_function ts ≡ false → starts_assign ts ≡ false → Spells Choice ts e rest →
        Spells Assignment ts e rest
    assignment : {t u : Token} {ts rest : List Token} {x : Name} {op : AssignOp} {e : PlainExpr} →
        named t ≡ Some x → assign_op u ≡ Some op → Spells Assignment ts e rest →
        Spells Assignment (t ∷ (u ∷ ts)) (at 0 t.line (p.assign op x e)) rest
    function_value : {t : Token} {ts ms rest : List Token} {xs : List Name} {e : PlainExpr} →
        starts_function (t ∷ ts) ≡ true → Header (t ∷ ts) xs ms → starts LeftBrace ms ≡ false →
        Spells Assignment ms e rest →
        Spells Assignment (t ∷ ts) (at 0 t.line (p.arrow_value (spot t) xs e)) rest
    function_block : {t u v : Token} {ts ms rest : List Token} {xs : List Name} {ss : List PlainStmt} →
        starts_function (t ∷ ts) ≡ true → Header (t ∷ ts) xs (u ∷ ms) → sort u ≡ LeftBrace →
        Statements ms ss (v ∷ rest) → sort v ≡ RightBrace →
        Spells Assignment (t ∷ ts) (at 0 t.line (p.arrow_block (spot t) xs (stmts_of ss))) rest

  -- a primary, and this many of `.word`, `[ expression ]` and `( arguments )`
  pub data Called : List Token → PlainExpr → List Token → Type 0 where
    called_first : {ts rest : List Token} {e : PlainExpr} → Spells Primary ts e rest → Called ts e rest
    called_member : {t u : Token} {ts rest : List Token} {e : PlainExpr} {x : List ℕ} →
        Called ts e (t ∷ (u ∷ rest)) → sort t ≡ Dot → member_word u ≡ Some x →
        Called ts (at 0 (line_of ts) (p.member e x)) rest
    called_index : {t u : Token} {ts ms rest : List Token} {e i : PlainExpr} →
        Called ts e (t ∷ ms) → sort t ≡ LeftBracket → Spells Assignment ms i (u ∷ rest) →
        sort u ≡ RightBracket → Called ts (at 0 (line_of ts) (p.index e i)) rest
    called_with : {t : Token} {ts ms rest : List Token} {e : PlainExpr} {es : List PlainExpr} →
        Called ts e (t ∷ ms) → sort t ≡ LeftParen → Elements RightParen ms es rest →
        Called ts (at 0 (line_of ts) (p.call e (exprs_of es))) rest

  -- operands with operators of one level between them, to the left
  pub data Operated : ℕ → List Token → PlainExpr → List Token → Type 0 where
    operated_first : {k : ℕ} {ts rest : List Token} {e : PlainExpr} → Spells (Operators k) ts e rest →
        Operated k ts e rest
    operated_more : {k : ℕ} {t : Token} {ts ms rest : List Token} {op : Operator} {a b : PlainExpr} →
        Operated k ts a (t ∷ ms) → operator_at k t ≡ Some op → Spells (Operators k) ms b rest →
        Operated k ts (at 0 (line_of ts) (p.binary op a b)) rest

  -- expressions separated by commas, and the mark that closes them
  pub data Elements : Sort → List Token → List PlainExpr → List Token → Type 0 where
    elements_none : {c : Sort} {t : Token} {rest : List Token} → sort t ≡ c →
        Elements c (t ∷ rest) [] rest
    elements_last : {c : Sort} {t : Token} {ts rest : List Token} {e : PlainExpr} →
        starts c ts ≡ false → Spells Assignment ts e (t ∷ rest) → sort t ≡ c →
        Elements c ts (e ∷ []) rest
    elements_more : {c : Sort} {t : Token} {ts ms rest : List Token} {e : PlainExpr}
        {es : List PlainExpr} →
        starts c ts ≡ false → Spells Assignment ts e (t ∷ ms) → sort t ≡ Comma → Elements c ms es rest →
        Elements c ts (e ∷ es) rest

  -- a key, `:` and its value, or a name alone
  pub data Field : List Token → PlainField → List Token → Type 0 where
    field_pair : {t u : Token} {ts rest : List Token} {x : List ℕ} {e : PlainExpr} →
        key t ≡ Some x → sort u ≡ Colon → Spells Assignment ts e rest →
        Field (t ∷ (u ∷ ts)) (record { key = x; value = e }) rest
    field_name : {t : Token} {rest : List Token} {x : Name} →
        named t ≡ Some x → starts Colon rest ≡ false →
        Field (t ∷ rest) (record { key = x.text; value = at 0 t.line (p.use_of x) }) rest

  -- fields separated by commas, and `}`
  pub data Fields : List Token → List PlainField → List Token → Type 0 where
    fields_none : {t : Token} {rest : List Token} → sort t ≡ RightBrace → Fields (t ∷ rest) [] rest
    fields_last : {t : Token} {ts rest : List Token} {f : PlainField} →
        starts RightBrace ts ≡ false → Field ts f (t ∷ rest) → sort t ≡ RightBrace →
        Fields ts (f ∷ []) rest
    fields_more : {t : Token} {ts ms rest : List Token} {f : PlainField} {fs : List PlainField} →
        starts RightBrace ts ≡ false → Field ts f (t ∷ ms) → sort t ≡ Comma → Fields ms fs rest →
        Fields ts (f ∷ fs) rest

  -- a declared name with its value, or alone, which a constant never is
  pub data Declarator : DeclareKind → List Token → PlainDeclarator → List Token → Type 0 where
    declarator_value : {k : DeclareKind} {t u : Token} {ts rest : List Token} {x : Name}
        {e : PlainExpr} →
        named t ≡ Some x → sort u ≡ Set → Spells Assignment ts e rest →
        Declarator k (t ∷ (u ∷ ts))
        (record { name = x; value = present e; end = end_before ts rest }) rest
    declarator_name : {k : DeclareKind} {t : Token} {rest : List Token} {x : Name} →
        named t ≡ Some x → starts Set rest ≡ false → is_const k ≡ false →
        Declarator k (t ∷ rest) (record { name = x; value = absent; end = t.to }) rest

  -- declarators separated by commas
  pub data Declarators : DeclareKind → List Token → List PlainDeclarator → List Token → Type 0 where
    declarators_last : {k : DeclareKind} {ts rest : List Token} {d : PlainDeclarator} →
        Declarator k ts d rest → starts Comma rest ≡ false → Declarators k ts (d ∷ []) rest
    declarators_more : {k : DeclareKind} {t : Token} {ts ms rest : List Token} {d : PlainDeclarator}
        {ds : List PlainDeclarator} →
        Declarator k ts d (t ∷ ms) → sort t ≡ Comma → Declarators k ms ds rest →
        Declarators k ts (d ∷ ds) rest

  -- what a `for` begins with, up to its first `;`
  pub data Start : List Token → PlainStart → List Token → Type 0 where
    start_nothing : {rest : List Token} → starts Semicolon rest ≡ true → Start rest p.nothing rest
    start_declares : {t : Token} {ts rest : List Token} {k : DeclareKind} {ds : List PlainDeclarator} →
        declares t ≡ Some k → Declarators k ts ds rest →
        Start (t ∷ ts) (p.declared t.line k (declarators_of ds)) rest
    start_value : {ts rest : List Token} {e : PlainExpr} →
        starts Semicolon ts ≡ false → starts_declaration ts ≡ false → Spells Assignment ts e rest →
        Start ts (p.started e) rest

  -- an expression that may be absent before a mark
  pub data Perhaps : Sort → List Token → PlainPerhaps → List Token → Type 0 where
    perhaps_none : {c : Sort} {rest : List Token} → starts c rest ≡ true → Perhaps c rest absent rest
    perhaps_some : {c : Sort} {ts rest : List Token} {e : PlainExpr} →
        starts c ts ≡ false → Spells Assignment ts e rest → Perhaps c ts (present e) rest

  -- an expression in parentheses
  pub data Test : List Token → PlainExpr → List Token → Type 0 where
    test_of : {t u : Token} {ts rest : List Token} {e : PlainExpr} →
        sort t ≡ LeftParen → Spells Assignment ts e (u ∷ rest) → sort u ≡ RightParen →
        Test (t ∷ ts) e rest

  -- statements, up to `}` or the end of the text
  pub data Statements : List Token → List PlainStmt → List Token → Type 0 where
    statements_end : {rest : List Token} → starts_end rest ≡ true → Statements rest [] rest
    statements_more : {ts ms rest : List Token} {s : PlainStmt} {ss : List PlainStmt} →
        starts_end ts ≡ false → Statement ts s ms → Statements ms ss rest → Statements ts (s ∷ ss) rest

  -- any statement but a `const` or `let` declaration
  pub data Body : List Token → PlainStmt → List Token → Type 0 where
    body_of : {ts rest : List Token} {s : PlainStmt} → starts_lexical ts ≡ false → Statement ts s rest →
        Body ts s rest

  pub data Statement : List Token → PlainStmt → List Token → Type 0 where
    empty_of : {t : Token} {rest : List Token} → sort t ≡ Semicolon →
        Statement (t ∷ rest) (on t.line p.empty) rest
    block_of : {t u : Token} {ts rest : List Token} {ss : List PlainStmt} →
        sort t ≡ LeftBrace → Statements ts ss (u ∷ rest) → sort u ≡ RightBrace →
        Statement (t ∷ ts) (on t.line (p.block (stmts_of ss))) rest
    declaration_of : {t : Token} {ts ms rest : List Token} {k : DeclareKind}
        {ds : List PlainDeclarator} →
        declares t ≡ Some k → Declarators k ts ds ms → End (declarators_ending ds) ms rest →
        Statement (t ∷ ts) (on t.line (p.declaration k (declarators_of ds))) rest
    expression_of : {t : Token} {ts ms rest : List Token} {e : PlainExpr} →
        starts_other (t ∷ ts) ≡ false → Spells Assignment (t ∷ ts) e ms → End (ending e) ms rest →
        Statement (t ∷ ts) (on t.line (p.expression e)) rest
    if_only : {t : Token} {ts ms rest : List Token} {e : PlainExpr} {s : PlainStmt} →
        sort t ≡ If → Test ts e ms → Body ms s rest → starts Else rest ≡ false →
        Statement (t ∷ ts) (on t.line (p.if_alone e s)) rest
    if_both : {t u : Token} {ts ms ns rest : List Token} {e : PlainExpr} {s s' : PlainStmt} →
        sort t ≡ If → Test ts e ms → Body ms s (u ∷ ns) → sort u ≡ Else → Body ns s' rest →
        Statement (t ∷ ts) (on t.line (p.if_else e s s')) rest
    while_loop : {t : Token} {ts ms rest : List Token} {e : PlainExpr} {s : PlainStmt} →
        sort t ≡ While → Test ts e ms → Body ms s rest →
        Statement (t ∷ ts) (on t.line (p.while_of e s)) rest
    for_three : {t u v w x : Token} {ts ms ns ls rest : List Token} {start : PlainStart}
        {test next : PlainPerhaps} {s : PlainStmt} →
        sort t ≡ For → sort u ≡ LeftParen → starts_for_of ts ≡ false → Start ts start (v ∷ ms) →
        sort v ≡ Semicolon →
        Perhaps Semicolon ms test (w ∷ ns) → sort w ≡ Semicolon → Perhaps RightParen ns next (x ∷ ls) →
        sort x ≡ RightParen → Body ls s rest →
        Statement (t ∷ (u ∷ ts)) (on t.line (p.for_three start test next s)) rest
    for_of : {t u v w x y : Token} {ts ms rest : List Token} {k : DeclareKind} {n : Name}
        {e : PlainExpr} {s : PlainStmt} →
        sort t ≡ For → sort u ≡ LeftParen → lexical v ≡ Some k → named w ≡ Some n → is_of x ≡ true →
        Spells Assignment ts e (y ∷ ms) → sort y ≡ RightParen → Body ms s rest →
        Statement (t ∷ (u ∷ (v ∷ (w ∷ (x ∷ ts))))) (on t.line (p.for_of k n e s)) rest
    break_end : {t : Token} {ts rest : List Token} → sort t ≡ Break → End Closed ts rest →
        Statement (t ∷ ts) (on t.line (p.break_of (spot t))) rest
    continue_end : {t : Token} {ts rest : List Token} → sort t ≡ Continue → End Closed ts rest →
        Statement (t ∷ ts) (on t.line (p.continue_of (spot t))) rest
    return_end : {t : Token} {ts rest : List Token} →
        sort t ≡ Return → ends_return ts ≡ true → End Closed ts rest →
        Statement (t ∷ ts) (on t.line (p.return_nothing (spot t))) rest
    return_value : {t : Token} {ts ms rest : List Token} {e : PlainExpr} →
        sort t ≡ Return → ends_return ts ≡ false → Spells Assignment ts e ms → End (ending e) ms rest →
        Statement (t ∷ ts) (on t.line (p.return_of (spot t) e)) rest

-- a statement of the program, or a function declaration
pub data Item : List Token → PlainItem → List Token → Type 0 where
  item_statement : {t : Token} {ts rest : List Token} {s : PlainStmt} → is Function t ≡ false →
      Statement (t ∷ ts) s rest → Item (t ∷ ts) (p.statement (spot t) s) rest
  item_function : {t u v : Token} {ts ms rest : List Token} {x : Name} {xs : List Name}
      {ss : List PlainStmt} →
      sort t ≡ Function → named u ≡ Some x → Opening ts xs ms → Statements ms ss (v ∷ rest) →
      sort v ≡ RightBrace →
      Item (t ∷ (u ∷ ts)) (p.function_of (spot t) x xs (stmts_of ss)) rest

-- all tokens
pub data SpellsTree : List Token → List PlainItem → Type 0 where
  tree_end : SpellsTree [] []
  tree_more : {ts ms : List Token} {i : PlainItem} {is : List PlainItem} → Item ts i ms →
      SpellsTree ms is → SpellsTree ts (i ∷ is)
