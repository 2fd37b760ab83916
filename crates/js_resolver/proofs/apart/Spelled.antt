-- The names and the functions of what some tokens spell stand among the tokens.
use Rattle.std.proofs.Common.{◌≡◌, ℕ, List, [], ◌∷◌, ◌++◌, refl, ap, sym, ◌∙◌, Option, Some, Bool, true, false}
use Rattle.std.proofs.lemmas.Bool.{true≢false}
use Rattle.std.specs.Prelude.{is_some}
use Rattle.std.specs.List.{flat_map}
use Rattle.js_lexer.specs.declared.token.Token.{Token}
use Rattle.js_tree.specs.declared.tree.DeclareKind.{DeclareKind}
use Rattle.js_tree.specs.Plain as p
use Rattle.js_tree.specs.Plain.{PlainExpr, PlainField, PlainPerhaps, PlainDeclarator, PlainDeclarators, PlainStart, PlainStmt, PlainItem, exprs_of, fields_of, declarators_of, stmts_of}
use Rattle.js_lexer.specs.declared.sort.Sort.{Sort}
use Rattle.js_grammar.specs.Tokens.{lexical, if_lexical, starts_lexical}
use Rattle.js_grammar.specs.Grammar.{Level, Spells, number_of, words_of, true_of, false_of, null_of, name_of, round, list_of, fields_in, function_in, calls, no_sign, signed, update_before, update_after, operators, no_choice, choice, no_assignment, assignment, function_value, function_block, Called, called_first, called_member, called_index, called_with, Operated, operated_first, operated_more, Elements, elements_none, elements_last, elements_more, Field, field_pair, field_name, Fields, fields_none, fields_last, fields_more, Declarator, declarator_value, declarator_name, Declarators, declarators_last, declarators_more, Start, start_nothing, start_declares, start_value, Perhaps, perhaps_none, perhaps_some, Test, test_of, Statements, statements_end, statements_more, Body, body_of, Statement, empty_of, block_of, declaration_of, expression_of, if_only, if_both, while_loop, for_three, for_of, break_end, continue_end, return_end, return_value, Item, item_statement, item_function, SpellsTree, tree_end, tree_more}
use Rattle.js_names.specs.declared.mention.Around.{Around}
use Rattle.js_names.specs.declared.mention.Declared.{Declared}
use Rattle.js_names.specs.declared.mention.What.{What}
use Rattle.js_names.specs.Entries.{top, own_declarator, own_declarators, own_of, own_of_all, own_of_start, own_of_item, var_declarator, var_declarators, vars_of, vars_of_all, vars_of_start, vars_of_item}
use Rattle.js_names.specs.Scopes.{Scope, block_scope, for_three_scope, list_scope, for_of_scope, function_scope}
use Rattle.js_names.specs.Forms.{object_of, called_builtin, value_builtin}
use Rattle.js_names.specs.Unresolved.{one_mention, declared_role, in_function, in_loop, expr_mentions, form_mentions, exprs_mentions, fields_mentions, perhaps_mentions, declarators_mentions, start_mentions, stmt_mentions, stmt_form_mentions, stmts_mentions, item_mentions}
use Rattle.js_names.specs.Mentions.{found, found_var}
use Rattle.js_resolver.proofs.apart.Order.{name_offset}
use Rattle.js_resolver.proofs.sound.Found.{in_whole, AllFound}
use Rattle.js_resolver.proofs.apart.There.{AllThere, there_left, there_right}
use Rattle.js_resolver.proofs.apart.Declared.{block_own, for_own, function_own, function_vars, parameters_found, declarator_found, each_found}
use Rattle.js_resolver.proofs.apart.Spans.{Spans, nothing, and_then, after, up_to, ended, unless, member_spans, at_name, read_spans, assign_spans, header_spans, function_spans, declared_spans}

-- `var` declares nothing for its list
no_own : (look : List ℕ → Option Declared) (f : ℕ) (w direct : Bool) (ds : List PlainDeclarator) → AllThere look f w (own_declarators f direct DeclareKind.Var (declarators_of ds))
no_own look f w direct [] = tt
no_own look f w direct (d ∷ ds) = no_own look f w direct ds

not_lexical : (look : List ℕ → Option Declared) (f : ℕ) (w direct : Bool) (k : DeclareKind) (ds : List PlainDeclarator) → is_some (if_lexical (Some k)) ≡ false → AllThere look f w (own_declarators f direct k (declarators_of ds))
not_lexical look f w direct DeclareKind.Const ds h = absurd (true≢false h)
not_lexical look f w direct DeclareKind.Let ds h = absurd (true≢false h)
not_lexical look f w direct DeclareKind.Var ds h = no_own look f w direct ds

-- a statement that no `const` or `let` begins declares nothing for its list
body_own : {ts rest : List Token} {s : PlainStmt} (look : List ℕ → Option Declared) (f : ℕ) (w direct : Bool) → starts_lexical ts ≡ false → Statement ts s rest → AllThere look f w (own_of f direct s)
unfolding lexical
body_own look f w direct l (declaration_of {k = k} {ds = ds} h s e) = not_lexical look f w direct k ds (sym (ap (λ o. is_some (if_lexical o)) h) ∙ l)
body_own look f w direct l (empty_of h) = tt
body_own look f w direct l (block_of h s k) = tt
body_own look f w direct l (expression_of h s e) = tt
body_own look f w direct l (if_only h i s k) = tt
body_own look f w direct l (if_both h i s k z) = tt
body_own look f w direct l (while_loop h i s) = tt
body_own look f w direct l (for_three h i b s j e k n m r) = tt
body_own look f w direct l (for_of h i j k m s n r) = tt
body_own look f w direct l (break_end h e) = tt
body_own look f w direct l (continue_end h e) = tt
body_own look f w direct l (return_end h k e) = tt
body_own look f w direct l (return_value h k s e) = tt

-- the first of some declarators
first_found : (scopes : List Scope) (a : Around) (direct : Bool) (kind : DeclareKind) (d : PlainDeclarator) (ds : PlainDeclarators) → AllThere (found scopes) a.owner (in_whole scopes) (own_declarators a.owner direct kind (p.declarator_in d.name d.value d.end ds)) →
    AllThere (found_var scopes) a.owner true (var_declarators a.owner direct kind (p.declarator_in d.name d.value d.end ds)) → AllFound (one_mention scopes a (What.Declares (declared_role kind)) d.name)
first_found scopes a direct kind d ds own vars =
    declarator_found scopes a direct kind d.name d.value d.end (there_left (found scopes) a.owner (in_whole scopes) (own_declarator a.owner direct kind d.name d.value d.end) (own_declarators a.owner direct kind ds) own)
    (there_left (found_var scopes) a.owner true (var_declarator a.owner direct kind d.name d.value d.end) (var_declarators a.owner direct kind ds) vars)

mutual
  unfolding expr_mentions form_mentions exprs_mentions fields_mentions perhaps_mentions declarators_mentions start_mentions stmt_mentions stmt_form_mentions stmts_mentions found_var block_scope for_three_scope for_of_scope

  pub spells_spans : {l : Level} {ts rest : List Token} {e : PlainExpr} (scopes : List Scope) (a : Around) → Spells l ts e rest → Spans ts rest (expr_mentions scopes a e)
  spells_spans scopes a (number_of h) = after nothing
  spells_spans scopes a (words_of h) = after nothing
  spells_spans scopes a (true_of h) = after nothing
  spells_spans scopes a (false_of h) = after nothing
  spells_spans scopes a (null_of h) = after nothing
  spells_spans scopes a (name_of {x = x} h) = read_spans scopes a x (name_offset _ h)
  spells_spans scopes a (round h s k) = after (up_to (spells_spans scopes a s))
  spells_spans scopes a (list_of h s) = after (elements_spans scopes a s)
  spells_spans scopes a (fields_in h s) = after (fields_spans scopes a s)
  spells_spans scopes a (function_in {t = t} {xs = xs} {ss = ss} h o s k) =
      let inner = function_scope t.from xs (stmts_of ss) ∷ scopes in
      and_then (function_spans inner (parameters_found t.from xs (stmts_of ss) scopes) o)
      (up_to (statements_spans inner (in_function t.from) true (function_own t.from xs (stmts_of ss) scopes) (function_vars t.from xs (stmts_of ss) scopes) s))
  spells_spans scopes a (calls s h) = called_spans scopes a s
  spells_spans scopes a (no_sign h k s) = spells_spans scopes a s
  spells_spans scopes a (signed h s) = after (spells_spans scopes a s)
  spells_spans scopes a (update_before {x = x} h k) = after (assign_spans scopes a x (name_offset _ k))
  spells_spans scopes a (update_after {x = x} h k l) = up_to (assign_spans scopes a x (name_offset _ h))
  spells_spans scopes a (operators s h) = operated_spans scopes a s
  spells_spans scopes a (no_choice s h) = spells_spans scopes a s
  spells_spans scopes a (choice x h y k z) = and_then (up_to (spells_spans scopes a x)) (and_then (up_to (spells_spans scopes a y)) (spells_spans scopes a z))
  spells_spans scopes a (no_assignment h k s) = spells_spans scopes a s
  spells_spans scopes a (assignment {x = x} h k s) = and_then (up_to (assign_spans scopes a x (name_offset _ h))) (spells_spans scopes a s)
  spells_spans scopes a (function_value {t = t} {xs = xs} h k b s) =
      let inner = function_scope t.from xs p.no_stmts ∷ scopes in
      and_then (header_spans inner (parameters_found t.from xs p.no_stmts scopes) k) (spells_spans inner (in_function t.from) s)
  spells_spans scopes a (function_block {t = t} {xs = xs} {ss = ss} h k b s c) =
      let inner = function_scope t.from xs (stmts_of ss) ∷ scopes in
      and_then (up_to (header_spans inner (parameters_found t.from xs (stmts_of ss) scopes) k))
      (up_to (statements_spans inner (in_function t.from) true (function_own t.from xs (stmts_of ss) scopes) (function_vars t.from xs (stmts_of ss) scopes) s))

  called_spans : {ts rest : List Token} {e : PlainExpr} (scopes : List Scope) (a : Around) → Called ts e rest → Spans ts rest (expr_mentions scopes a e)
  called_spans scopes a (called_first s) = spells_spans scopes a s
  called_spans scopes a (called_member {e = e} {x = x} s h k) = member_spans scopes a (object_of e) x (is_some (value_builtin e x)) (up_to (up_to (called_spans scopes a s)))
  called_spans scopes a (called_index s h i k) = and_then (up_to (called_spans scopes a s)) (up_to (spells_spans scopes a i))
  called_spans scopes a (called_with {e = e} s h i) = and_then (unless (is_some (called_builtin e)) (up_to (called_spans scopes a s))) (elements_spans scopes a i)

  operated_spans : {k : ℕ} {ts rest : List Token} {e : PlainExpr} (scopes : List Scope) (a : Around) → Operated k ts e rest → Spans ts rest (expr_mentions scopes a e)
  operated_spans scopes a (operated_first s) = spells_spans scopes a s
  operated_spans scopes a (operated_more s h i) = and_then (up_to (operated_spans scopes a s)) (spells_spans scopes a i)

  elements_spans : {c : Sort} {ts rest : List Token} {es : List PlainExpr} (scopes : List Scope) (a : Around) → Elements c ts es rest → Spans ts rest (exprs_mentions scopes a (exprs_of es))
  elements_spans scopes a (elements_none h) = after nothing
  elements_spans scopes a (elements_last h s k) = and_then (up_to (spells_spans scopes a s)) nothing
  elements_spans scopes a (elements_more h s k r) = and_then (up_to (spells_spans scopes a s)) (elements_spans scopes a r)

  field_spans : {ts rest : List Token} {f : PlainField} (scopes : List Scope) (a : Around) → Field ts f rest → Spans ts rest (expr_mentions scopes a f.value)
  field_spans scopes a (field_pair h k s) = after (after (spells_spans scopes a s))
  field_spans scopes a (field_name {x = x} h k) = read_spans scopes a x (name_offset _ h)

  fields_spans : {ts rest : List Token} {fs : List PlainField} (scopes : List Scope) (a : Around) → Fields ts fs rest → Spans ts rest (fields_mentions scopes a (fields_of fs))
  fields_spans scopes a (fields_none h) = after nothing
  fields_spans scopes a (fields_last h s k) = and_then (up_to (field_spans scopes a s)) nothing
  fields_spans scopes a (fields_more h s k r) = and_then (up_to (field_spans scopes a s)) (fields_spans scopes a r)

  -- a declared name and its value
  declarator_spans : {k : DeclareKind} {ts rest : List Token} {d : PlainDeclarator} (scopes : List Scope) (a : Around) → AllFound (one_mention scopes a (What.Declares (declared_role k)) d.name) → Declarator k ts d rest →
      Spans ts rest (one_mention scopes a (What.Declares (declared_role k)) d.name ++ perhaps_mentions scopes a d.value)
  declarator_spans scopes a f (declarator_value h i s) = and_then (up_to (at_name _ (name_offset _ h) refl f.0)) (spells_spans scopes a s)
  declarator_spans scopes a f (declarator_name h i l) = and_then (at_name _ (name_offset _ h) refl f.0) nothing

  declarators_spans : {k : DeclareKind} {ts rest : List Token} {ds : List PlainDeclarator} (scopes : List Scope) (a : Around) (direct : Bool) → AllThere (found scopes) a.owner (in_whole scopes) (own_declarators a.owner direct k (declarators_of ds)) →
      AllThere (found_var scopes) a.owner true (var_declarators a.owner direct k (declarators_of ds)) → Declarators k ts ds rest → Spans ts rest (declarators_mentions scopes a k (declarators_of ds))
  declarators_spans {k = k} scopes a direct own vars (declarators_last {d = d} s h) =
      let one = first_found scopes a direct k d p.no_declarators own vars in
      and_then (declarator_spans scopes a one s) nothing
  declarators_spans {k = k} scopes a direct own vars (declarators_more {d = d} {ds = ds} s h r) =
      let one = first_found scopes a direct k d (declarators_of ds) own vars in
      let own' = there_right (found scopes) a.owner (in_whole scopes) (own_declarator a.owner direct k d.name d.value d.end) (own_declarators a.owner direct k (declarators_of ds)) own in
      let vars' = there_right (found_var scopes) a.owner true (var_declarator a.owner direct k d.name d.value d.end) (var_declarators a.owner direct k (declarators_of ds)) vars in
      and_then (up_to (declarator_spans scopes a one s)) (declarators_spans scopes a direct own' vars' r)

  start_spans : {ts rest : List Token} {s : PlainStart} (scopes : List Scope) (a : Around) → AllThere (found scopes) a.owner (in_whole scopes) (own_of_start a.owner s) → AllThere (found_var scopes) a.owner true (vars_of_start a.owner s) → Start ts s rest →
      Spans ts rest (start_mentions scopes a s)
  start_spans scopes a own vars (start_nothing h) = nothing
  start_spans scopes a own vars (start_declares h s) = after (declarators_spans scopes a false own vars s)
  start_spans scopes a own vars (start_value h k s) = spells_spans scopes a s

  perhaps_spans : {c : Sort} {ts rest : List Token} {e : PlainPerhaps} (scopes : List Scope) (a : Around) → Perhaps c ts e rest → Spans ts rest (perhaps_mentions scopes a e)
  perhaps_spans scopes a (perhaps_none h) = nothing
  perhaps_spans scopes a (perhaps_some h s) = spells_spans scopes a s

  test_spans : {ts rest : List Token} {e : PlainExpr} (scopes : List Scope) (a : Around) → Test ts e rest → Spans ts rest (expr_mentions scopes a e)
  test_spans scopes a (test_of h s k) = after (up_to (spells_spans scopes a s))

  pub statements_spans : {ts rest : List Token} {ss : List PlainStmt} (scopes : List Scope) (a : Around) (direct : Bool) → AllThere (found scopes) a.owner (in_whole scopes) (own_of_all a.owner direct (stmts_of ss)) →
      AllThere (found_var scopes) a.owner true (vars_of_all a.owner direct (stmts_of ss)) → Statements ts ss rest → Spans ts rest (stmts_mentions scopes a (stmts_of ss))
  statements_spans scopes a direct own vars (statements_end h) = nothing
  statements_spans scopes a direct own vars (statements_more {s = s} {ss = ss} h x r) =
      let f = a.owner in
      and_then
      (statement_spans scopes a direct (there_left (found scopes) f (in_whole scopes) (own_of f direct s) (own_of_all f direct (stmts_of ss)) own) (there_left (found_var scopes) f true (vars_of f direct s) (vars_of_all f direct (stmts_of ss)) vars) x)
      (statements_spans scopes a direct (there_right (found scopes) f (in_whole scopes) (own_of f direct s) (own_of_all f direct (stmts_of ss)) own) (there_right (found_var scopes) f true (vars_of f direct s) (vars_of_all f direct (stmts_of ss)) vars) r)

  body_spans : {ts rest : List Token} {s : PlainStmt} (scopes : List Scope) (a : Around) → AllThere (found_var scopes) a.owner true (vars_of a.owner false s) → Body ts s rest → Spans ts rest (stmt_mentions scopes a s)
  body_spans scopes a vars (body_of h s) = statement_spans scopes a false (body_own (found scopes) a.owner (in_whole scopes) false h s) vars s

  pub statement_spans : {ts rest : List Token} {s : PlainStmt} (scopes : List Scope) (a : Around) (direct : Bool) → AllThere (found scopes) a.owner (in_whole scopes) (own_of a.owner direct s) → AllThere (found_var scopes) a.owner true (vars_of a.owner direct s) →
      Statement ts s rest → Spans ts rest (stmt_mentions scopes a s)
  statement_spans scopes a direct own vars (empty_of h) = after nothing
  statement_spans scopes a direct own vars (block_of {ss = ss} h s k) = after (up_to (statements_spans (block_scope a.owner (stmts_of ss) ∷ scopes) a false (block_own a.owner (stmts_of ss) scopes) vars s))
  statement_spans scopes a direct own vars (declaration_of h s e) = after (ended (declarators_spans scopes a direct own vars s) e)
  statement_spans scopes a direct own vars (expression_of h s e) = ended (spells_spans scopes a s) e
  statement_spans scopes a direct own vars (if_only h i s k) = after (and_then (test_spans scopes a i) (body_spans scopes a vars s))
  statement_spans scopes a direct own vars (if_both {s = x} {s' = y} h i s k z) =
      let one = there_left (found_var scopes) a.owner true (vars_of a.owner false x) (vars_of a.owner false y) vars in
      let other = there_right (found_var scopes) a.owner true (vars_of a.owner false x) (vars_of a.owner false y) vars in
      after (and_then (test_spans scopes a i) (and_then (up_to (body_spans scopes a one s)) (body_spans scopes a other z)))
  statement_spans scopes a direct own vars (while_loop h i s) = after (and_then (test_spans scopes a i) (body_spans scopes (in_loop a) vars s))
  statement_spans scopes a direct own vars (for_three {start = start} {s = x} h i b s j e k n l r) =
      let inner = for_three_scope a.owner start x ∷ scopes in
      let head = there_left (found_var scopes) a.owner true (vars_of_start a.owner start) (vars_of a.owner false x) vars in
      let body = there_right (found_var scopes) a.owner true (vars_of_start a.owner start) (vars_of a.owner false x) vars in
      after (after (and_then (up_to (start_spans inner a (for_own a.owner start x scopes) head s)) (and_then (up_to (perhaps_spans inner a e)) (and_then (up_to (perhaps_spans inner a n)) (body_spans inner (in_loop a) body r)))))
  statement_spans scopes a direct own vars (for_of {k = k} {n = n} {s = x} h i j m l s y r) =
      let listed = list_scope a.owner k n ∷ scopes in
      let inner = for_of_scope a.owner k n x ∷ scopes in
      let f = each_found scopes a k n in
      after (after (after (and_then (up_to (at_name _ (name_offset _ m) refl f.0)) (and_then (up_to (spells_spans listed a s)) (body_spans inner (in_loop a) vars r)))))
  statement_spans scopes a direct own vars (break_end h e) = ended (at_name _ refl refl tt) e
  statement_spans scopes a direct own vars (continue_end h e) = ended (at_name _ refl refl tt) e
  statement_spans scopes a direct own vars (return_end h k e) = ended (at_name _ refl refl tt) e
  statement_spans scopes a direct own vars (return_value h k s e) = ended (and_then (at_name _ refl refl tt) (spells_spans scopes a s)) e

item_spans : {ts rest : List Token} {i : PlainItem} (scopes : List Scope) → AllThere (found scopes) top (in_whole scopes) (own_of_item i) → AllThere (found_var scopes) top true (vars_of_item i) → Item ts i rest → Spans ts rest (item_mentions scopes i)
unfolding item_mentions
item_spans scopes own vars (item_statement h s) = statement_spans scopes (in_function top) true own vars s
item_spans scopes own vars (item_function {t = t} {x = x} {xs = xs} {ss = ss} h k o s l) =
    let inner = function_scope t.from xs (stmts_of ss) ∷ scopes in
    and_then (declared_spans inner _ (name_offset _ k) refl refl own.0 (parameters_found t.from xs (stmts_of ss) scopes) o)
    (up_to (statements_spans inner (in_function t.from) true (function_own t.from xs (stmts_of ss) scopes) (function_vars t.from xs (stmts_of ss) scopes) s))

-- and those of all items among all tokens
pub tree_spans : {ts : List Token} {is : List PlainItem} (scopes : List Scope) → AllThere (found scopes) top (in_whole scopes) (flat_map own_of_item is) → AllThere (found_var scopes) top true (flat_map vars_of_item is) → SpellsTree ts is →
    Spans ts [] (flat_map (item_mentions scopes) is)
tree_spans scopes own vars tree_end = nothing
tree_spans scopes own vars (tree_more {i = i} {is = is} x s) =
    let here = item_spans scopes (there_left (found scopes) top (in_whole scopes) (own_of_item i) (flat_map own_of_item is) own) (there_left (found_var scopes) top true (vars_of_item i) (flat_map vars_of_item is) vars) x in
    and_then here (tree_spans scopes (there_right (found scopes) top (in_whole scopes) (own_of_item i) (flat_map own_of_item is) own) (there_right (found_var scopes) top true (vars_of_item i) (flat_map vars_of_item is) vars) s)
