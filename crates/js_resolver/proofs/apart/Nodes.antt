-- A tree has at most two nodes for each token that spells it.
use Rattle.std.proofs.Common.{ℕ, ◌+◌, ◌*◌, ◌≤◌, List, ◌++◌, length, length-append, arith, Bool, true, false, if◌then◌else◌}
use Rattle.std.specs.Prelude.{is_some}
use Rattle.js_lexer.specs.declared.token.Token.{Token}
use Rattle.js_tree.specs.declared.tree.DeclareKind.{DeclareKind}
use Rattle.js_tree.specs.Plain.{PlainExpr, at, PlainField, PlainPerhaps, PlainDeclarator, PlainStart, PlainStmt, PlainItem, exprs_of, fields_of, declarators_of, stmts_of}
use Rattle.js_program.specs.PlainProgram.{PlainNode}
use Rattle.js_lexer.specs.declared.sort.Sort.{Sort}
use Rattle.js_grammar.specs.Grammar.{Level, Spells, number_of, words_of, true_of, false_of, null_of, name_of, round, list_of, fields_in, function_in, calls, no_sign, signed, update_before, update_after, operators, no_choice, choice, no_assignment, assignment, function_value, function_block, Called, called_first, called_member, called_index, called_with, Operated, operated_first, operated_more, Elements, elements_none, elements_last, elements_more, Field, field_pair, field_name, Fields, fields_none, fields_last, fields_more, Declarator, declarator_value, declarator_name, Declarators, declarators_last, declarators_more, Start, start_nothing, start_declares, start_value, Perhaps, perhaps_none, perhaps_some, Test, test_of, Statements, statements_end, statements_more, Body, body_of, Statement, empty_of, block_of, declaration_of, expression_of, if_only, if_both, while_loop, for_three, for_of, break_end, continue_end, return_end, return_value, Item, item_statement, item_function, SpellsTree, tree_end, tree_more}
use Rattle.js_grammar.proofs.Shorter.{header_shorter, opening_shorter, end_shorter}
use Rattle.js_names.specs.Forms.{called_builtin, value_builtin}
use Rattle.js_names.specs.Mentions.{Mention}
use Rattle.js_resolver.specs.Pieces.{Piece, none, after}
use Rattle.js_resolver.specs.NodeForms.{method_of, floors_division}
use Rattle.js_resolver.specs.Nodes.{expr_piece, expr_parts, form_parts, exprs_piece, arguments_piece, fields_piece, perhaps_piece, declarators_piece, start_piece, stmt_piece, stmt_parts, stmts_piece, item_piece, items_piece}

-- this many nodes more would be at most two for each token up to the rest
abbrev Few : ℕ → List Token → List Token → Piece → Type 0
Few n ts rest x = length x.nodes + n + 2 * length rest ≤ 2 * length ts

unless_few : (b : Bool) (x : Piece) → length (if b then none else x).nodes ≤ length x.nodes
unless_few true x = omega arith
unless_few false x = omega arith

parts_few : (ps : List Mention) (b : ℕ) (e : PlainExpr) → length (expr_parts ps b e).nodes ≤ length (expr_piece ps b e).nodes
unfolding expr_piece expr_parts
parts_few ps b (at parens line form) = omega (arith, length-append {A = PlainNode})

either_few : (b : Bool) (x y : Piece) → length x.nodes ≤ length y.nodes → length (if b then x else y).nodes ≤ length y.nodes
either_few true x y h = h
either_few false x y h = omega arith

-- what stands before the arguments of a call
head_few : (ps : List Mention) (b : ℕ) (e : PlainExpr) → length (if is_some (called_builtin e) then none else (if is_some (method_of e) then expr_parts ps b e else expr_piece ps b e)).nodes ≤ length (expr_piece ps b e).nodes
head_few ps b e =
    let method = if is_some (method_of e) then expr_parts ps b e else expr_piece ps b e in
    omega (arith, unless_few (is_some (called_builtin e)) method, either_few (is_some (method_of e)) (expr_parts ps b e) (expr_piece ps b e) (parts_few ps b e))

mutual
  unfolding expr_piece form_parts exprs_piece arguments_piece fields_piece perhaps_piece declarators_piece start_piece stmt_piece stmt_parts stmts_piece

  spells_few : {l : Level} {ts rest : List Token} {e : PlainExpr} (ps : List Mention) (b : ℕ) → Spells l ts e rest → Few 1 ts rest (expr_piece ps b e)
  spells_few ps b (number_of h) = omega arith
  spells_few ps b (words_of h) = omega arith
  spells_few ps b (true_of h) = omega arith
  spells_few ps b (false_of h) = omega arith
  spells_few ps b (null_of h) = omega arith
  spells_few ps b (name_of h) = omega arith
  spells_few ps b (round h s k) = omega (arith, spells_few ps b s)
  spells_few ps b (list_of h s) = omega (arith, length-append {A = PlainNode}, elements_few ps b s)
  spells_few ps b (fields_in h s) = omega (arith, length-append {A = PlainNode}, fields_few ps b s)
  spells_few ps b (function_in h o s k) = omega (arith, length-append {A = PlainNode}, opening_shorter o, statements_few ps b s)
  spells_few ps b (calls s h) = called_few ps b s
  spells_few ps b (no_sign h k s) = spells_few ps b s
  spells_few ps b (signed h s) = omega (arith, length-append {A = PlainNode}, spells_few ps b s)
  spells_few ps b (update_before h k) = omega arith
  spells_few ps b (update_after h k l) = omega arith
  spells_few ps b (operators s h) = operated_few ps b s
  spells_few ps b (no_choice s h) = spells_few ps b s
  spells_few ps b (choice {a = x} {b = y} {c = z} s h t k u) =
      let v = expr_piece ps b x in
      let w = expr_piece ps (after b v) y in
      omega (arith, length-append {A = PlainNode}, spells_few ps b s, spells_few ps (after b v) t, spells_few ps (b + length (v.nodes ++ w.nodes)) u)
  spells_few ps b (no_assignment h k s) = spells_few ps b s
  spells_few ps b (assignment h k s) = omega (arith, length-append {A = PlainNode}, spells_few ps b s)
  spells_few ps b (function_value h k c s) = omega (arith, length-append {A = PlainNode}, header_shorter k, spells_few ps b s)
  spells_few ps b (function_block h k c s d) = omega (arith, length-append {A = PlainNode}, header_shorter k, statements_few ps b s)

  called_few : {ts rest : List Token} {e : PlainExpr} (ps : List Mention) (b : ℕ) → Called ts e rest → Few 1 ts rest (expr_piece ps b e)
  called_few ps b (called_first s) = spells_few ps b s
  called_few ps b (called_member {e = e} {x = x} s h k) = omega (arith, length-append {A = PlainNode}, called_few ps b s, unless_few (is_some (value_builtin e x)) (expr_piece ps b e))
  called_few ps b (called_index {e = e} s h i k) = omega (arith, length-append {A = PlainNode}, called_few ps b s, spells_few ps (after b (expr_piece ps b e)) i)
  called_few ps b (called_with {e = e} {es = es} s h i) =
      let x = if is_some (called_builtin e) then none else (if is_some (method_of e) then expr_parts ps b e else expr_piece ps b e) in
      omega (arith, length-append {A = PlainNode}, called_few ps b s, head_few ps b e, arguments_few ps (after b x) (floors_division (called_builtin e) (exprs_of es)) i)

  operated_few : {k : ℕ} {ts rest : List Token} {e : PlainExpr} (ps : List Mention) (b : ℕ) → Operated k ts e rest → Few 1 ts rest (expr_piece ps b e)
  operated_few ps b (operated_first s) = spells_few ps b s
  operated_few ps b (operated_more {a = x} s h i) = omega (arith, length-append {A = PlainNode}, operated_few ps b s, spells_few ps (after b (expr_piece ps b x)) i)

  elements_few : {c : Sort} {ts rest : List Token} {es : List PlainExpr} (ps : List Mention) (b : ℕ) → Elements c ts es rest → Few 2 ts rest (exprs_piece ps b (exprs_of es))
  elements_few ps b (elements_none h) = omega arith
  elements_few ps b (elements_last h s k) = omega (arith, length-append {A = PlainNode}, spells_few ps b s)
  elements_few ps b (elements_more {e = e} h s k r) = omega (arith, length-append {A = PlainNode}, spells_few ps b s, elements_few ps (after b (expr_piece ps b e)) r)

  arguments_few : {c : Sort} {ts rest : List Token} {es : List PlainExpr} (ps : List Mention) (b : ℕ) (opens : Bool) → Elements c ts es rest → Few 2 ts rest (arguments_piece ps b opens (exprs_of es))
  arguments_few ps b opens (elements_none h) = omega arith
  arguments_few ps b opens (elements_last {e = e} h s k) =
      omega (arith, length-append {A = PlainNode}, spells_few ps b s, either_few opens (expr_parts ps b e) (expr_piece ps b e) (parts_few ps b e))
  arguments_few ps b opens (elements_more {e = e} h s k r) =
      let x = if opens then expr_parts ps b e else expr_piece ps b e in
      omega (arith, length-append {A = PlainNode}, spells_few ps b s, either_few opens (expr_parts ps b e) (expr_piece ps b e) (parts_few ps b e), elements_few ps (after b x) r)

  field_few : {ts rest : List Token} {f : PlainField} (ps : List Mention) (b : ℕ) → Field ts f rest → Few 1 ts rest (expr_piece ps b f.value)
  field_few ps b (field_pair h k s) = omega (arith, spells_few ps b s)
  field_few ps b (field_name h k) = omega arith

  fields_few : {ts rest : List Token} {fs : List PlainField} (ps : List Mention) (b : ℕ) → Fields ts fs rest → Few 2 ts rest (fields_piece ps b (fields_of fs))
  fields_few ps b (fields_none h) = omega arith
  fields_few ps b (fields_last h s k) = omega (arith, length-append {A = PlainNode}, field_few ps b s)
  fields_few ps b (fields_more {f = f} h s k r) = omega (arith, length-append {A = PlainNode}, field_few ps b s, fields_few ps (after b (expr_piece ps b f.value)) r)

  declarator_few : {k : DeclareKind} {ts rest : List Token} {d : PlainDeclarator} (ps : List Mention) (b : ℕ) → Declarator k ts d rest → Few 0 ts rest (perhaps_piece ps b d.value)
  declarator_few ps b (declarator_value h i s) = omega (arith, spells_few ps b s)
  declarator_few ps b (declarator_name h i l) = omega arith

  declarators_few : {k : DeclareKind} {ts rest : List Token} {ds : List PlainDeclarator} (ps : List Mention) (b : ℕ) → Declarators k ts ds rest → Few 0 ts rest (declarators_piece ps b (declarators_of ds))
  declarators_few ps b (declarators_last s h) = omega (arith, length-append {A = PlainNode}, declarator_few ps b s)
  declarators_few ps b (declarators_more {d = d} s h r) = omega (arith, length-append {A = PlainNode}, declarator_few ps b s, declarators_few ps (after b (perhaps_piece ps b d.value)) r)

  start_few : {ts rest : List Token} {s : PlainStart} (ps : List Mention) (b : ℕ) → Start ts s rest → Few 0 ts rest (start_piece ps b s)
  start_few ps b (start_nothing h) = omega arith
  start_few ps b (start_declares h s) = omega (arith, length-append {A = PlainNode}, declarators_few ps b s)
  start_few ps b (start_value h k s) = omega (arith, spells_few ps b s)

  perhaps_few : {c : Sort} {ts rest : List Token} {e : PlainPerhaps} (ps : List Mention) (b : ℕ) → Perhaps c ts e rest → Few 0 ts rest (perhaps_piece ps b e)
  perhaps_few ps b (perhaps_none h) = omega arith
  perhaps_few ps b (perhaps_some h s) = omega (arith, spells_few ps b s)

  test_few : {ts rest : List Token} {e : PlainExpr} (ps : List Mention) (b : ℕ) → Test ts e rest → Few 1 ts rest (expr_piece ps b e)
  test_few ps b (test_of h s k) = omega (arith, spells_few ps b s)

  statements_few : {ts rest : List Token} {ss : List PlainStmt} (ps : List Mention) (b : ℕ) → Statements ts ss rest → Few 0 ts rest (stmts_piece ps b (stmts_of ss))
  statements_few ps b (statements_end h) = omega arith
  statements_few ps b (statements_more {s = s} h x r) = omega (arith, length-append {A = PlainNode}, statement_few ps b x, statements_few ps (after b (stmt_piece ps b s)) r)

  body_few : {ts rest : List Token} {s : PlainStmt} (ps : List Mention) (b : ℕ) → Body ts s rest → Few 0 ts rest (stmt_piece ps b s)
  body_few ps b (body_of h s) = statement_few ps b s

  statement_few : {ts rest : List Token} {s : PlainStmt} (ps : List Mention) (b : ℕ) → Statement ts s rest → Few 0 ts rest (stmt_piece ps b s)
  statement_few ps b (empty_of h) = omega arith
  statement_few ps b (block_of h s k) = omega (arith, length-append {A = PlainNode}, statements_few ps b s)
  statement_few ps b (declaration_of h s e) = omega (arith, length-append {A = PlainNode}, declarators_few ps b s, end_shorter e)
  statement_few ps b (expression_of h s e) = omega (arith, length-append {A = PlainNode}, spells_few ps b s, end_shorter e)
  statement_few ps b (if_only {e = e} h i s k) = omega (arith, length-append {A = PlainNode}, test_few ps b i, body_few ps (after b (expr_piece ps b e)) s)
  statement_few ps b (if_both {e = e} {s = x} h i s k z) =
      let v = expr_piece ps b e in
      let w = stmt_piece ps (after b v) x in
      omega (arith, length-append {A = PlainNode}, test_few ps b i, body_few ps (after b v) s, body_few ps (b + length (v.nodes ++ w.nodes)) z)
  statement_few ps b (while_loop {e = e} h i s) = omega (arith, length-append {A = PlainNode}, test_few ps b i, body_few ps (after b (expr_piece ps b e)) s)
  statement_few ps b (for_three {start = start} {test = test} {next = next} h i c s j e k n l r) =
      let v = start_piece ps b start in
      let w = perhaps_piece ps (after b v) test in
      let c = b + length (v.nodes ++ w.nodes) in
      let x = perhaps_piece ps c next in
      omega (arith, length-append {A = PlainNode}, start_few ps b s, perhaps_few ps (after b v) e, perhaps_few ps c n, body_few ps (b + length ((v.nodes ++ w.nodes) ++ x.nodes)) r)
  statement_few ps b (for_of {e = e} h i j k l s m r) = omega (arith, length-append {A = PlainNode}, spells_few ps b s, body_few ps (after b (expr_piece ps b e)) r)
  statement_few ps b (break_end h e) = omega (arith, end_shorter e)
  statement_few ps b (continue_end h e) = omega (arith, end_shorter e)
  statement_few ps b (return_end h k e) = omega (arith, end_shorter e)
  statement_few ps b (return_value h k s e) = omega (arith, length-append {A = PlainNode}, spells_few ps b s, end_shorter e)

item_few : {ts rest : List Token} {i : PlainItem} (ps : List Mention) (b : ℕ) → Item ts i rest → Few 0 ts rest (item_piece ps b i)
unfolding item_piece
item_few ps b (item_statement h s) = statement_few ps b s
item_few ps b (item_function h k o s l) = omega (arith, opening_shorter o, statements_few ps b s)

pub items_few : {ts : List Token} {is : List PlainItem} (ps : List Mention) (b : ℕ) → SpellsTree ts is → length (items_piece ps b is).nodes ≤ 2 * length ts
unfolding items_piece
items_few ps b tree_end = omega arith
items_few ps b (tree_more {i = i} x s) = omega (arith, length-append {A = PlainNode}, item_few ps b x, items_few ps (after b (item_piece ps b i)) s)
