-- Trees that no tokens spell, whose programs break no rule of names and yet are not sound.
use Rattle.std.proofs.Common.{◌≡◌, List, [], ◌∷◌, refl, true, false}
use Rattle.std.specs.Prelude.{None, codes}
use Rattle.std.specs.List.{list_all}
use Rattle.js_tree.specs.declared.tree.DeclareKind.{DeclareKind}
use Rattle.js_tree.specs.Plain as t
use Rattle.js_tree.specs.Plain.{PlainItem}
use Rattle.js_program.specs.Sound.{node_fits, body_fits}
use Rattle.js_names.specs.Scopes.{program_scope, function_scope}
use Rattle.js_names.specs.Unresolved.{expr_mentions, form_mentions, perhaps_mentions, declarators_mentions, stmt_mentions, stmt_form_mentions, stmts_mentions, item_mentions, unresolved_mentions}
use Rattle.js_names.specs.Mentions.{found, found_var, functions_of, repeated, blocked, look_up, mentions}
use Rattle.js_names.specs.Slots.{assigned_in, captures, holdings, vars_of, slot_count, slots_of, constants_of, functions_in}
use Rattle.js_names.specs.Rules.{fault_at, name_fault}
use Rattle.js_names.proofs.Build.{name, spot}
use Rattle.js_resolver.specs.Variables.{named_at, code_at, around_of, body_of}
use Rattle.js_resolver.specs.Nodes.{expr_piece, form_parts, perhaps_piece, declarators_piece, stmt_piece, stmt_parts, stmts_piece, item_piece, items_piece}
use Rattle.js_resolver.specs.Resolved.{program_of_tree}

-- `if (true) let y;`: a `let` outside a list belongs to no scope
abbrev alone : List PlainItem
alone = t.statement (spot 0) (t.on 1 (t.if_alone (t.at 0 1 (t.truth true)) (t.on 1 (t.declaration DeclareKind.Let (t.declarator_in (name (codes "y") 14) t.absent 15 t.no_declarators))))) ∷ []

alone-unbroken : name_fault alone ≡ None
unfolding name_fault fault_at slot_count slots_of holdings assigned_in mentions look_up unresolved_mentions item_mentions stmt_mentions stmt_form_mentions expr_mentions form_mentions declarators_mentions perhaps_mentions program_scope found found_var functions_of repeated blocked
alone-unbroken = refl

alone-unsound : body_fits (program_of_tree alone) 0 3 (program_of_tree alone).top ≡ false
unfolding node_fits program_of_tree items_piece item_piece stmt_piece stmt_parts expr_piece form_parts declarators_piece perhaps_piece named_at code_at around_of body_of captures vars_of constants_of functions_in slots_of holdings assigned_in mentions look_up unresolved_mentions item_mentions stmt_mentions stmt_form_mentions expr_mentions form_mentions declarators_mentions perhaps_mentions program_scope found found_var functions_of repeated blocked
alone-unsound = refl

-- `function f(a, b) {}` with both parameters at one offset
abbrev twice : List PlainItem
twice = t.function_of (spot 0) (name (codes "f") 9) (name (codes "a") 11 ∷ name (codes "b") 11 ∷ []) t.no_stmts ∷ []

twice-unbroken : name_fault twice ≡ None
unfolding name_fault fault_at slot_count slots_of holdings assigned_in mentions look_up unresolved_mentions item_mentions stmts_mentions program_scope function_scope found found_var functions_of repeated blocked
twice-unbroken = refl

twice-unsound : list_all (body_fits (program_of_tree twice) 0 0) (program_of_tree twice).functions ≡ false
unfolding node_fits program_of_tree items_piece item_piece stmts_piece named_at code_at around_of body_of captures vars_of constants_of functions_in slots_of holdings assigned_in mentions look_up unresolved_mentions item_mentions stmts_mentions program_scope function_scope found found_var functions_of repeated blocked
twice-unsound = refl
