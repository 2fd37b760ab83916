-- What tokens spell has no `let` or `const` as the whole body of an `if` or of a loop.
use Rattle.std.proofs.Common.{◌≡◌, false, ap, sym, ◌∙◌, List, Some, refl}
use Rattle.std.proofs.lemmas.Bool.{true≢false}
use Rattle.std.specs.Prelude.{is_some}
use Rattle.js_lexer.specs.declared.token.Token.{Token}
use Rattle.js_tree.specs.declared.tree.DeclareKind.{DeclareKind}
use Rattle.js_tree.specs.Plain as p
use Rattle.js_tree.specs.Plain.{PlainExpr, PlainField, PlainPerhaps, PlainDeclarator, PlainDeclarators, PlainStart, PlainStmt, PlainItem, on, exprs_of, fields_of, declarators_of, stmts_of}
use Rattle.js_lexer.specs.declared.sort.Sort.{Sort}
use Rattle.js_grammar.specs.Tokens.{lexical, if_lexical, starts_lexical}
use Rattle.js_grammar.specs.Grammar.{Level, Spells, number_of, words_of, true_of, false_of, null_of, name_of, round, list_of, fields_in, function_in, calls, no_sign, signed, update_before, update_after, operators, no_choice, choice, no_assignment, assignment, function_value, function_block, Called, called_first, called_member, called_index, called_with, Operated, operated_first, operated_more, Elements, elements_none, elements_last, elements_more, Field, field_pair, field_name, Fields, fields_none, fields_last, fields_more, Declarator, declarator_value, declarator_name, Declarators, declarators_last, declarators_more, Start, start_nothing, start_declares, start_value, Perhaps, perhaps_none, perhaps_some, Test, test_of, Statements, statements_end, statements_more, Body, body_of, Statement, empty_of, block_of, declaration_of, expression_of, if_only, if_both, while_loop, for_three, for_of, break_end, continue_end, return_end, return_value, item_statement, item_function, SpellsTree, tree_end, tree_more}
use Rattle.js_names.specs.Lexicals.{is_lexical, ScopedExpr, ScopedExprs, ScopedFields, ScopedPerhaps, ScopedDeclarators, ScopedStart, ScopedBody, ScopedStmt, ScopedStmts, ScopedItems}

not_lexical : (line : _) (k : DeclareKind) (ds : PlainDeclarators) → is_some (if_lexical (Some k)) ≡ false → is_lexical (on line (p.declaration k ds)) ≡ false
not_lexical line DeclareKind.Const ds h = absurd (true≢false h)
not_lexical line DeclareKind.Let ds h = absurd (true≢false h)
not_lexical line DeclareKind.Var ds h = refl

-- a statement that no `const` or `let` begins is no such declaration
begins_other : {ts rest : List Token} {s : PlainStmt} → starts_lexical ts ≡ false → Statement ts s rest → is_lexical s ≡ false
unfolding lexical
begins_other l (declaration_of {t = t} {k = k} {ds = ds} h s e) = not_lexical t.line k (declarators_of ds) (sym (ap (λ o. is_some (if_lexical o)) h) ∙ l)
begins_other l (empty_of h) = refl
begins_other l (block_of h s k) = refl
begins_other l (expression_of h s e) = refl
begins_other l (if_only h i s k) = refl
begins_other l (if_both h i s k z) = refl
begins_other l (while_loop h i s) = refl
begins_other l (for_three h i b s j e k n m r) = refl
begins_other l (for_of h i j k m s n r) = refl
begins_other l (break_end h e) = refl
begins_other l (continue_end h e) = refl
begins_other l (return_end h k e) = refl
begins_other l (return_value h k s e) = refl

as_body : (s : PlainStmt) → is_lexical s ≡ false → ScopedStmt s → ScopedBody s
as_body (p.on line form) h k = (h, k)

mutual
  spells_scoped : {l : Level} {ts rest : List Token} {e : PlainExpr} → Spells l ts e rest → ScopedExpr e
  spells_scoped (number_of h) = tt
  spells_scoped (words_of h) = tt
  spells_scoped (true_of h) = tt
  spells_scoped (false_of h) = tt
  spells_scoped (null_of h) = tt
  spells_scoped (name_of h) = tt
  spells_scoped (round h s k) = spells_scoped s
  spells_scoped (list_of h s) = elements_scoped s
  spells_scoped (fields_in h s) = fields_scoped s
  spells_scoped (function_in h o s k) = statements_scoped s
  spells_scoped (calls s h) = called_scoped s
  spells_scoped (no_sign h k s) = spells_scoped s
  spells_scoped (signed h s) = spells_scoped s
  spells_scoped (update_before h k) = tt
  spells_scoped (update_after h k l) = tt
  spells_scoped (operators s h) = operated_scoped s
  spells_scoped (no_choice s h) = spells_scoped s
  spells_scoped (choice s h t k u) = (spells_scoped s, (spells_scoped t, spells_scoped u))
  spells_scoped (no_assignment h k s) = spells_scoped s
  spells_scoped (assignment h k s) = spells_scoped s
  spells_scoped (function_value h k c s) = spells_scoped s
  spells_scoped (function_block h k c s d) = statements_scoped s

  called_scoped : {ts rest : List Token} {e : PlainExpr} → Called ts e rest → ScopedExpr e
  called_scoped (called_first s) = spells_scoped s
  called_scoped (called_member s h k) = called_scoped s
  called_scoped (called_index s h i k) = (called_scoped s, spells_scoped i)
  called_scoped (called_with s h i) = (called_scoped s, elements_scoped i)

  operated_scoped : {k : _} {ts rest : List Token} {e : PlainExpr} → Operated k ts e rest → ScopedExpr e
  operated_scoped (operated_first s) = spells_scoped s
  operated_scoped (operated_more s h i) = (operated_scoped s, spells_scoped i)

  elements_scoped : {c : Sort} {ts rest : List Token} {es : List PlainExpr} → Elements c ts es rest → ScopedExprs (exprs_of es)
  elements_scoped (elements_none h) = tt
  elements_scoped (elements_last h s k) = (spells_scoped s, tt)
  elements_scoped (elements_more h s k r) = (spells_scoped s, elements_scoped r)

  field_scoped : {ts rest : List Token} {f : PlainField} → Field ts f rest → ScopedExpr f.value
  field_scoped (field_pair h k s) = spells_scoped s
  field_scoped (field_name h k) = tt

  fields_scoped : {ts rest : List Token} {fs : List PlainField} → Fields ts fs rest → ScopedFields (fields_of fs)
  fields_scoped (fields_none h) = tt
  fields_scoped (fields_last h s k) = (field_scoped s, tt)
  fields_scoped (fields_more h s k r) = (field_scoped s, fields_scoped r)

  declarator_scoped : {k : DeclareKind} {ts rest : List Token} {d : PlainDeclarator} → Declarator k ts d rest → ScopedPerhaps d.value
  declarator_scoped (declarator_value h i s) = spells_scoped s
  declarator_scoped (declarator_name h i l) = tt

  declarators_scoped : {k : DeclareKind} {ts rest : List Token} {ds : List PlainDeclarator} → Declarators k ts ds rest → ScopedDeclarators (declarators_of ds)
  declarators_scoped (declarators_last s h) = (declarator_scoped s, tt)
  declarators_scoped (declarators_more s h r) = (declarator_scoped s, declarators_scoped r)

  start_scoped : {ts rest : List Token} {s : PlainStart} → Start ts s rest → ScopedStart s
  start_scoped (start_nothing h) = tt
  start_scoped (start_declares h s) = declarators_scoped s
  start_scoped (start_value h k s) = spells_scoped s

  perhaps_scoped : {c : Sort} {ts rest : List Token} {e : PlainPerhaps} → Perhaps c ts e rest → ScopedPerhaps e
  perhaps_scoped (perhaps_none h) = tt
  perhaps_scoped (perhaps_some h s) = spells_scoped s

  test_scoped : {ts rest : List Token} {e : PlainExpr} → Test ts e rest → ScopedExpr e
  test_scoped (test_of h s k) = spells_scoped s

  statements_scoped : {ts rest : List Token} {ss : List PlainStmt} → Statements ts ss rest → ScopedStmts (stmts_of ss)
  statements_scoped (statements_end h) = tt
  statements_scoped (statements_more h x r) = (statement_scoped x, statements_scoped r)

  body_scoped : {ts rest : List Token} {s : PlainStmt} → Body ts s rest → ScopedBody s
  body_scoped (body_of {s = s} h x) = as_body s (begins_other h x) (statement_scoped x)

  statement_scoped : {ts rest : List Token} {s : PlainStmt} → Statement ts s rest → ScopedStmt s
  statement_scoped (empty_of h) = tt
  statement_scoped (block_of h s k) = statements_scoped s
  statement_scoped (declaration_of h s e) = declarators_scoped s
  statement_scoped (expression_of h s e) = spells_scoped s
  statement_scoped (if_only h i s k) = (test_scoped i, body_scoped s)
  statement_scoped (if_both h i s k z) = (test_scoped i, (body_scoped s, body_scoped z))
  statement_scoped (while_loop h i s) = (test_scoped i, body_scoped s)
  statement_scoped (for_three h i c s j e k n l r) = (start_scoped s, (perhaps_scoped e, (perhaps_scoped n, body_scoped r)))
  statement_scoped (for_of h i j k l s m r) = (spells_scoped s, body_scoped r)
  statement_scoped (break_end h e) = tt
  statement_scoped (continue_end h e) = tt
  statement_scoped (return_end h k e) = tt
  statement_scoped (return_value h k s e) = spells_scoped s

pub items_scoped : {ts : List Token} {items : List PlainItem} → SpellsTree ts items → ScopedItems items
items_scoped tree_end = tt
items_scoped (tree_more (item_statement h s) r) = (statement_scoped s, items_scoped r)
items_scoped (tree_more (item_function h k o s l) r) = (statements_scoped s, items_scoped r)
