-- What is spelled takes tokens.
use Rattle.std.proofs.Common.{ℕ, ◌≤◌, ◌<◌, List, length, arith}
use Rattle.js_lexer.specs.declared.token.Token.{Token}
use Rattle.js_tree.specs.declared.tree.Name.{Name}
use Rattle.js_tree.specs.declared.tree.DeclareKind.{DeclareKind}
use Rattle.js_tree.specs.declared.ending.Ending.{Ending}
use Rattle.js_tree.specs.Plain.{PlainExpr, PlainField, PlainPerhaps, PlainDeclarator, PlainStart, PlainStmt, PlainItem}
use Rattle.js_lexer.specs.declared.sort.Sort.{Sort}
use Rattle.js_grammar.specs.Grammar.{Level, Params, params_none, params_last, params_more, Header, header_name, header_params, Opening, opening, End, end_mark, end_none, Spells, number_of, words_of, true_of, false_of, null_of, name_of, round, list_of, fields_in, function_in, calls, no_sign, signed, update_before, update_after, operators, no_choice, choice, no_assignment, assignment, function_value, function_block, Called, called_first, called_member, called_index, called_with, Operated, operated_first, operated_more, Elements, elements_none, elements_last, elements_more, Field, field_pair, field_name, Fields, fields_none, fields_last, fields_more, Declarator, declarator_value, declarator_name, Declarators, declarators_last, declarators_more, Start, start_nothing, start_declares, start_value, Perhaps, perhaps_none, perhaps_some, Test, test_of, Statements, statements_end, statements_more, Body, body_of, Statement, empty_of, block_of, declaration_of, expression_of, if_only, if_both, while_loop, for_three, for_of, break_end, continue_end, return_end, return_value, Item, item_statement, item_function}

pub params_shorter : {ts rest : List Token} {xs : List Name} → Params ts xs rest → length rest < length ts
params_shorter (params_none e) = omega arith
params_shorter (params_last e f) = omega arith
params_shorter (params_more e f r) = omega (arith, params_shorter r)

pub header_shorter : {ts rest : List Token} {xs : List Name} → Header ts xs rest → length rest < length ts
header_shorter (header_name e f) = omega arith
header_shorter (header_params e p f) = omega (arith, params_shorter p)

pub opening_shorter : {ts rest : List Token} {xs : List Name} → Opening ts xs rest → length rest < length ts
opening_shorter (opening e p f) = omega (arith, params_shorter p)

pub end_shorter : {b : Ending} {ts rest : List Token} → End b ts rest → length rest ≤ length ts
end_shorter (end_mark e) = omega arith
end_shorter (end_none e) = omega arith

mutual
  pub spells_shorter : {l : Level} {ts rest : List Token} {e : PlainExpr} → Spells l ts e rest → length rest < length ts
  spells_shorter (number_of h) = omega arith
  spells_shorter (words_of h) = omega arith
  spells_shorter (true_of h) = omega arith
  spells_shorter (false_of h) = omega arith
  spells_shorter (null_of h) = omega arith
  spells_shorter (name_of h) = omega arith
  spells_shorter (round h s k) = omega (arith, spells_shorter s)
  spells_shorter (list_of h s) = omega (arith, elements_shorter s)
  spells_shorter (fields_in h s) = omega (arith, fields_shorter s)
  spells_shorter (function_in h o s k) = omega (arith, opening_shorter o, statements_shorter s)
  spells_shorter (calls s h) = called_shorter s
  spells_shorter (no_sign h k s) = spells_shorter s
  spells_shorter (signed h s) = omega (arith, spells_shorter s)
  spells_shorter (update_before h k) = omega arith
  spells_shorter (update_after h k l) = omega arith
  spells_shorter (operators s h) = operated_shorter s
  spells_shorter (no_choice s h) = spells_shorter s
  spells_shorter (choice a h b k c) = omega (arith, spells_shorter a, spells_shorter b, spells_shorter c)
  spells_shorter (no_assignment h k s) = spells_shorter s
  spells_shorter (assignment h k s) = omega (arith, spells_shorter s)
  spells_shorter (function_value h k b s) = omega (arith, header_shorter k, spells_shorter s)
  spells_shorter (function_block h k b s c) = omega (arith, header_shorter k, statements_shorter s)

  pub called_shorter : {ts rest : List Token} {e : PlainExpr} → Called ts e rest → length rest < length ts
  called_shorter (called_first s) = spells_shorter s
  called_shorter (called_member s h k) = omega (arith, called_shorter s)
  called_shorter (called_index s h i k) = omega (arith, called_shorter s, spells_shorter i)
  called_shorter (called_with s h i) = omega (arith, called_shorter s, elements_shorter i)

  pub operated_shorter : {k : ℕ} {ts rest : List Token} {e : PlainExpr} → Operated k ts e rest → length rest < length ts
  operated_shorter (operated_first s) = spells_shorter s
  operated_shorter (operated_more s h i) = omega (arith, operated_shorter s, spells_shorter i)

  pub elements_shorter : {c : Sort} {ts rest : List Token} {es : List PlainExpr} → Elements c ts es rest → length rest < length ts
  elements_shorter (elements_none h) = omega arith
  elements_shorter (elements_last h s k) = omega (arith, spells_shorter s)
  elements_shorter (elements_more h s k r) = omega (arith, spells_shorter s, elements_shorter r)

  pub field_shorter : {ts rest : List Token} {f : PlainField} → Field ts f rest → length rest < length ts
  field_shorter (field_pair h k s) = omega (arith, spells_shorter s)
  field_shorter (field_name h k) = omega arith

  pub fields_shorter : {ts rest : List Token} {fs : List PlainField} → Fields ts fs rest → length rest < length ts
  fields_shorter (fields_none h) = omega arith
  fields_shorter (fields_last h s k) = omega (arith, field_shorter s)
  fields_shorter (fields_more h s k r) = omega (arith, field_shorter s, fields_shorter r)

  pub declarator_shorter : {k : DeclareKind} {ts rest : List Token} {d : PlainDeclarator} → Declarator k ts d rest → length rest < length ts
  declarator_shorter (declarator_value h k s) = omega (arith, spells_shorter s)
  declarator_shorter (declarator_name h k l) = omega arith

  pub declarators_shorter : {k : DeclareKind} {ts rest : List Token} {ds : List PlainDeclarator} → Declarators k ts ds rest → length rest < length ts
  declarators_shorter (declarators_last s h) = declarator_shorter s
  declarators_shorter (declarators_more s h r) = omega (arith, declarator_shorter s, declarators_shorter r)

  pub start_shorter : {ts rest : List Token} {s : PlainStart} → Start ts s rest → length rest ≤ length ts
  start_shorter (start_nothing h) = omega arith
  start_shorter (start_declares h s) = omega (arith, declarators_shorter s)
  start_shorter (start_value h k s) = omega (arith, spells_shorter s)

  pub perhaps_shorter : {c : Sort} {ts rest : List Token} {e : PlainPerhaps} → Perhaps c ts e rest → length rest ≤ length ts
  perhaps_shorter (perhaps_none h) = omega arith
  perhaps_shorter (perhaps_some h s) = omega (arith, spells_shorter s)

  pub test_shorter : {ts rest : List Token} {e : PlainExpr} → Test ts e rest → length rest < length ts
  test_shorter (test_of h s k) = omega (arith, spells_shorter s)

  pub statements_shorter : {ts rest : List Token} {ss : List PlainStmt} → Statements ts ss rest → length rest ≤ length ts
  statements_shorter (statements_end h) = omega arith
  statements_shorter (statements_more h s r) = omega (arith, statement_shorter s, statements_shorter r)

  pub body_shorter : {ts rest : List Token} {s : PlainStmt} → Body ts s rest → length rest < length ts
  body_shorter (body_of h s) = statement_shorter s

  pub statement_shorter : {ts rest : List Token} {s : PlainStmt} → Statement ts s rest → length rest < length ts
  statement_shorter (empty_of h) = omega arith
  statement_shorter (block_of h s k) = omega (arith, statements_shorter s)
  statement_shorter (declaration_of h s e) = omega (arith, declarators_shorter s, end_shorter e)
  statement_shorter (expression_of h s e) = omega (arith, spells_shorter s, end_shorter e)
  statement_shorter (if_only h i s k) = omega (arith, test_shorter i, body_shorter s)
  statement_shorter (if_both h i s k z) = omega (arith, test_shorter i, body_shorter s, body_shorter z)
  statement_shorter (while_loop h i s) = omega (arith, test_shorter i, body_shorter s)
  statement_shorter (for_three h i b s j e k n l r) = omega (arith, start_shorter s, perhaps_shorter e, perhaps_shorter n, body_shorter r)
  statement_shorter (for_of h i j k l s m r) = omega (arith, spells_shorter s, body_shorter r)
  statement_shorter (break_end h e) = omega (arith, end_shorter e)
  statement_shorter (continue_end h e) = omega (arith, end_shorter e)
  statement_shorter (return_end h k e) = omega (arith, end_shorter e)
  statement_shorter (return_value h k s e) = omega (arith, spells_shorter s, end_shorter e)

pub item_shorter : {ts rest : List Token} {i : PlainItem} → Item ts i rest → length rest < length ts
item_shorter (item_statement h s) = statement_shorter s
item_shorter (item_function h k o s l) = omega (arith, opening_shorter o, statements_shorter s)
