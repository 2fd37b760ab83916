-- Programs and their nodes, worked out by hand.
use Rattle.std.proofs.Common.{◌≡◌, ℕ, List, [], ◌∷◌, refl}
use Rattle.std.specs.Prelude.{Some, None, codes, pos}
use Rattle.js_tree.specs.declared.tree.Name.{Name}
use Rattle.js_tree.specs.declared.tree.Spot.{Spot}
use Rattle.js_tree.specs.declared.tree.DeclareKind.{DeclareKind}
use Rattle.js_tree.specs.declared.tree.Operator.{Operator}
use Rattle.js_tree.specs.Plain as t
use Rattle.js_tree.specs.Plain.{PlainExpr, PlainForm, PlainStmt, PlainItem, exprs_of, stmts_of}
use Rattle.js_program.specs.declared.builtin.Builtin.{Builtin}
use Rattle.js_program.specs.declared.node.Variable.{Variable}
use Rattle.js_program.specs.declared.node.Variable.TheVariants.{Slot, Constant}
use Rattle.js_program.specs.PlainProgram as n
use Rattle.js_program.specs.PlainProgram.{PlainNode, PlainNodeForm, PlainDeclared}
use Rattle.js_names.specs.Scopes.{program_scope, function_scope, block_scope, for_three_scope, list_scope, for_of_scope}
use Rattle.js_names.specs.Unresolved.{expr_mentions, form_mentions, exprs_mentions, fields_mentions, perhaps_mentions, declarators_mentions, start_mentions, stmt_mentions, stmt_form_mentions, stmts_mentions, item_mentions, unresolved_mentions}
use Rattle.js_names.specs.Mentions.{found, found_var, functions_of, repeated, blocked, look_up, mentions}
use Rattle.js_names.specs.Slots.{assigned_in, captures, holdings, vars_of, slot_count, slots_of, constants_of, functions_in}
use Rattle.js_names.specs.Rules.{fault_at, name_fault}
use Rattle.js_resolver.specs.Variables.{named_at, code_at, around_of, body_of}
use Rattle.js_resolver.specs.Nodes.{expr_piece, expr_parts, form_parts, exprs_piece, arguments_piece, fields_piece, perhaps_piece, declarators_piece, start_piece, stmt_piece, stmt_parts, stmts_piece, item_piece, items_piece}
use Rattle.js_resolver.specs.Resolved.{program_of_tree, resolved}
use Rattle.js_resolver.proofs.Bodies.{body_with}

abbrev spot : ℕ → ℕ → Spot
spot p line = record { at = p; line = line }

abbrev name : List ℕ → ℕ → Name
name text p = record { text = text; spot = spot p 1 }

abbrev expr : ℕ → PlainForm → PlainExpr
expr line form = t.at 0 line form

abbrev uses : List ℕ → ℕ → PlainExpr
uses text p = expr 1 (t.use_of (name text p))

abbrev whole : ℕ → PlainExpr
whole i = expr 1 (t.number (pos i))

abbrev does : PlainExpr → PlainStmt
does e = t.on 1 (t.expression e)

abbrev bp : List ℕ → ℕ → List PlainExpr → PlainExpr
bp word p es = expr 1 (t.call (expr 1 (t.member (uses (codes "bp") p) word)) (exprs_of es))

abbrev math_floor : List PlainExpr → PlainExpr
math_floor es = expr 1 (t.call (expr 1 (t.member (uses (codes "Math") 0) (codes "floor"))) (exprs_of es))

abbrev one_let : List ℕ → ℕ → PlainExpr → ℕ → PlainStmt
one_let text p e end = t.on 1 (t.declaration DeclareKind.Let (t.declarator_in (name text p) (t.present e) end t.no_declarators))

abbrev node : ℕ → PlainNodeForm → PlainNode
node line form = record { line = line; form = form }

abbrev given : Variable → ℕ → PlainDeclared
given v n = record { variable = v; value = Some n }

-- let total = 1 + 2
-- function add(a, b) { return a + b }                           (line 2)
-- bp.registerBThread("t", function() {                          (the function on line 3)
--     let x = add(1, total); bp.sync(x); (() => x) })           (the arrow on line 4)
abbrev three_functions : List PlainItem
three_functions =
    t.statement (spot 0 1) (one_let (codes "total") 4 (expr 1 (t.binary Operator.Add (whole 1) (whole 2))) 17)
    ∷ t.function_of (spot 18 2) (name (codes "add") 27) (name (codes "a") 31 ∷ name (codes "b") 34 ∷ [])
    (stmts_of (t.on 2 (t.return_of (spot 39 2) (expr 2 (t.binary Operator.Add (uses (codes "a") 46) (uses (codes "b") 50)))) ∷ []))
    ∷ t.statement (spot 54 3) (does (bp (codes "registerBThread") 54 (expr 3 (t.text (codes "t")) ∷ expr 3 (t.function (spot 78 3) []
    (stmts_of (one_let (codes "x") 95 (expr 1 (t.call (uses (codes "add") 99) (exprs_of (whole 1 ∷ uses (codes "total") 106 ∷ [])))) 112
    ∷ does (bp (codes "sync") 114 (uses (codes "x") 122 ∷ []))
    ∷ does (expr 4 (t.arrow_value (spot 127 4) [] (uses (codes "x") 133)))
    ∷ []))) ∷ [])))
    ∷ []

pub three_functions_program : resolved three_functions ≡ Some (record {
  nodes =
      node 1 (n.number (pos 1))  -- 0
      ∷ node 1 (n.number (pos 2))
      ∷ node 1 (n.binary Operator.Add 0 1)
      ∷ node 1 (n.declaration DeclareKind.Let (given (Constant 0) 2 ∷ []))
      ∷ node 1 (n.read (Slot 0))  -- 4
      ∷ node 1 (n.read (Slot 1))
      ∷ node 2 (n.binary Operator.Add 4 5)
      ∷ node 2 (n.return_of 6)
      ∷ node 3 (n.text (codes "t"))  -- 8
      ∷ node 1 (n.read (Constant 1))
      ∷ node 1 (n.number (pos 1))
      ∷ node 1 (n.read (Constant 0))
      ∷ node 1 (n.call 9 (10 ∷ 11 ∷ []))  -- 12
      ∷ node 1 (n.declaration DeclareKind.Let (given (Slot 0) 12 ∷ []))
      ∷ node 1 (n.read (Slot 0))
      ∷ node 1 (n.builtin Builtin.Sync (14 ∷ []))
      ∷ node 1 (n.expression 15)  -- 16
      ∷ node 1 (n.read (Slot 0))
      ∷ node 4 (n.function 2)
      ∷ node 1 (n.expression 18)
      ∷ node 3 (n.function 1)  -- 20
      ∷ node 1 (n.builtin Builtin.RegisterBThread (8 ∷ 20 ∷ []))
      ∷ node 1 (n.expression 21)
      ∷ [];
  functions = body_with 2 2 [] [] (n.statements (7 ∷ [])) 2 ∷ body_with 0 1 [] [] (n.statements (13 ∷ 16 ∷ 19 ∷ [])) 3 ∷ body_with 0 1 (0 ∷ []) [] (n.one_value 17) 4 ∷ [];
  constants = n.undeclared ∷ n.of_function 0 ∷ [];
  top = body_with 0 0 [] [] (n.statements (3 ∷ 22 ∷ [])) 1;
})
unfolding program_scope function_scope block_scope for_three_scope list_scope for_of_scope expr_mentions form_mentions exprs_mentions fields_mentions perhaps_mentions declarators_mentions start_mentions stmt_mentions stmt_form_mentions stmts_mentions item_mentions unresolved_mentions found found_var functions_of repeated blocked look_up mentions assigned_in captures holdings vars_of slot_count slots_of constants_of functions_in fault_at name_fault named_at code_at around_of body_of expr_piece expr_parts form_parts exprs_piece arguments_piece fields_piece perhaps_piece declarators_piece start_piece stmt_piece stmt_parts stmts_piece item_piece items_piece program_of_tree resolved
three_functions_program = refl

-- Math.floor(7 / 2, 1): the operands are parts themselves
pub floor_of_a_division : (program_of_tree (t.statement (spot 0 1) (does (math_floor (expr 1 (t.binary Operator.Divide (whole 7) (whole 2)) ∷ whole 1 ∷ []))) ∷ [])).nodes
    ≡ node 1 (n.number (pos 7)) ∷ node 1 (n.number (pos 2)) ∷ node 1 (n.number (pos 1)) ∷ node 1 (n.floor_divide 0 1 (2 ∷ [])) ∷ node 1 (n.expression 3) ∷ []
unfolding program_scope function_scope block_scope for_three_scope list_scope for_of_scope expr_mentions form_mentions exprs_mentions fields_mentions perhaps_mentions declarators_mentions start_mentions stmt_mentions stmt_form_mentions stmts_mentions item_mentions unresolved_mentions found found_var functions_of repeated blocked look_up mentions assigned_in captures holdings vars_of slot_count slots_of constants_of functions_in fault_at name_fault named_at code_at around_of body_of expr_piece expr_parts form_parts exprs_piece arguments_piece fields_piece perhaps_piece declarators_piece start_piece stmt_piece stmt_parts stmts_piece item_piece items_piece program_of_tree resolved
floor_of_a_division = refl

-- Math.floor(7)
pub floor_of_a_number : (program_of_tree (t.statement (spot 0 1) (does (math_floor (whole 7 ∷ []))) ∷ [])).nodes
    ≡ node 1 (n.number (pos 7)) ∷ node 1 (n.builtin Builtin.Floor (0 ∷ [])) ∷ node 1 (n.expression 1) ∷ []
unfolding program_scope function_scope block_scope for_three_scope list_scope for_of_scope expr_mentions form_mentions exprs_mentions fields_mentions perhaps_mentions declarators_mentions start_mentions stmt_mentions stmt_form_mentions stmts_mentions item_mentions unresolved_mentions found found_var functions_of repeated blocked look_up mentions assigned_in captures holdings vars_of slot_count slots_of constants_of functions_in fault_at name_fault named_at code_at around_of body_of expr_piece expr_parts form_parts exprs_piece arguments_piece fields_piece perhaps_piece declarators_piece start_piece stmt_piece stmt_parts stmts_piece item_piece items_piece program_of_tree resolved
floor_of_a_number = refl

-- (1).or(2): a method is one node, with what stands before the dot as its first part
pub method_of_a_number : (program_of_tree (t.statement (spot 0 1) (does (expr 1 (t.call (expr 1 (t.member (whole 1) (codes "or"))) (exprs_of (whole 2 ∷ []))))) ∷ [])).nodes
    ≡ node 1 (n.number (pos 1)) ∷ node 1 (n.number (pos 2)) ∷ node 1 (n.method 0 (codes "or") (1 ∷ [])) ∷ node 1 (n.expression 2) ∷ []
unfolding program_scope function_scope block_scope for_three_scope list_scope for_of_scope expr_mentions form_mentions exprs_mentions fields_mentions perhaps_mentions declarators_mentions start_mentions stmt_mentions stmt_form_mentions stmts_mentions item_mentions unresolved_mentions found found_var functions_of repeated blocked look_up mentions assigned_in captures holdings vars_of slot_count slots_of constants_of functions_in fault_at name_fault named_at code_at around_of body_of expr_piece expr_parts form_parts exprs_piece arguments_piece fields_piece perhaps_piece declarators_piece start_piece stmt_piece stmt_parts stmts_piece item_piece items_piece program_of_tree resolved
method_of_a_number = refl

-- bp.all(1): a call of a value
pub all_called : (program_of_tree (t.statement (spot 0 1) (does (bp (codes "all") 0 (whole 1 ∷ []))) ∷ [])).nodes
    ≡ node 1 (n.builtin Builtin.All []) ∷ node 1 (n.number (pos 1)) ∷ node 1 (n.call 0 (1 ∷ [])) ∷ node 1 (n.expression 2) ∷ []
unfolding program_scope function_scope block_scope for_three_scope list_scope for_of_scope expr_mentions form_mentions exprs_mentions fields_mentions perhaps_mentions declarators_mentions start_mentions stmt_mentions stmt_form_mentions stmts_mentions item_mentions unresolved_mentions found found_var functions_of repeated blocked look_up mentions assigned_in captures holdings vars_of slot_count slots_of constants_of functions_in fault_at name_fault named_at code_at around_of body_of expr_piece expr_parts form_parts exprs_piece arguments_piece fields_piece perhaps_piece declarators_piece start_piece stmt_piece stmt_parts stmts_piece item_piece items_piece program_of_tree resolved
all_called = refl

-- (function(a) { var b; { let c = 1 } var a = 1; (() => () => a) }): slots, `var`s, and a capture that is handed through
abbrev handed_through : List PlainItem
handed_through =
    t.statement (spot 0 1) (does (expr 1 (t.function (spot 1 1) (name (codes "a") 10 ∷ []) (stmts_of
    (t.on 1 (t.declaration DeclareKind.Var (t.declarator_in (name (codes "b") 19) t.absent 20 t.no_declarators))
    ∷ t.on 1 (t.block (stmts_of (one_let (codes "c") 28 (whole 1) 33 ∷ [])))
    ∷ t.on 1 (t.declaration DeclareKind.Var (t.declarator_in (name (codes "a") 40) (t.present (whole 1)) 45 t.no_declarators))
    ∷ does (expr 1 (t.arrow_value (spot 48 1) [] (expr 1 (t.arrow_value (spot 54 1) [] (uses (codes "a") 60)))))
    ∷ [])))))
    ∷ []

pub handed_through_program : resolved handed_through ≡ Some (record {
  nodes =
      node 1 (n.declaration DeclareKind.Var (record { variable = Slot 1; value = None } ∷ []))
      ∷ node 1 (n.number (pos 1))
      ∷ node 1 (n.declaration DeclareKind.Let (given (Slot 2) 1 ∷ []))
      ∷ node 1 (n.block (2 ∷ []) (2 ∷ []))
      ∷ node 1 (n.number (pos 1))
      ∷ node 1 (n.declaration DeclareKind.Var (given (Slot 0) 4 ∷ []))
      ∷ node 1 (n.read (Slot 0))
      ∷ node 1 (n.function 2)
      ∷ node 1 (n.function 1)
      ∷ node 1 (n.expression 8)
      ∷ node 1 (n.function 0)
      ∷ node 1 (n.expression 10)
      ∷ [];
  functions = body_with 1 3 [] (1 ∷ []) (n.statements (0 ∷ 3 ∷ 5 ∷ 9 ∷ [])) 1 ∷ body_with 0 1 (0 ∷ []) [] (n.one_value 7) 1 ∷ body_with 0 1 (0 ∷ []) [] (n.one_value 6) 1 ∷ [];
  constants = [];
  top = body_with 0 0 [] [] (n.statements (11 ∷ [])) 1;
})
unfolding program_scope function_scope block_scope for_three_scope list_scope for_of_scope expr_mentions form_mentions exprs_mentions fields_mentions perhaps_mentions declarators_mentions start_mentions stmt_mentions stmt_form_mentions stmts_mentions item_mentions unresolved_mentions found found_var functions_of repeated blocked look_up mentions assigned_in captures holdings vars_of slot_count slots_of constants_of functions_in fault_at name_fault named_at code_at around_of body_of expr_piece expr_parts form_parts exprs_piece arguments_piece fields_piece perhaps_piece declarators_piece start_piece stmt_piece stmt_parts stmts_piece item_piece items_piece program_of_tree resolved
handed_through_program = refl

-- var x = 1; for (const y of x) y; (function() { x }): a constant that is a `var`, and a slot of the top level
pub a_slot_of_the_top_level : resolved (
    t.statement (spot 0 1) (t.on 1 (t.declaration DeclareKind.Var (t.declarator_in (name (codes "x") 4) (t.present (whole 1)) 9 t.no_declarators)))
    ∷ t.statement (spot 11 1) (t.on 1 (t.for_of DeclareKind.Const (name (codes "y") 22) (uses (codes "x") 27) (does (uses (codes "y") 30))))
    ∷ []) ≡ Some (record {
      nodes =
          node 1 (n.number (pos 1))
          ∷ node 1 (n.declaration DeclareKind.Var (given (Constant 0) 0 ∷ []))
          ∷ node 1 (n.read (Constant 0))
          ∷ node 1 (n.read (Slot 0))
          ∷ node 1 (n.expression 3)
          ∷ node 1 (n.for_of 0 2 4)
          ∷ [];
      functions = [];
      constants = n.unset ∷ [];
      top = body_with 0 1 [] [] (n.statements (1 ∷ 5 ∷ [])) 1;
    })
unfolding program_scope function_scope block_scope for_three_scope list_scope for_of_scope expr_mentions form_mentions exprs_mentions fields_mentions perhaps_mentions declarators_mentions start_mentions stmt_mentions stmt_form_mentions stmts_mentions item_mentions unresolved_mentions found found_var functions_of repeated blocked look_up mentions assigned_in captures holdings vars_of slot_count slots_of constants_of functions_in fault_at name_fault named_at code_at around_of body_of expr_piece expr_parts form_parts exprs_piece arguments_piece fields_piece perhaps_piece declarators_piece start_piece stmt_piece stmt_parts stmts_piece item_piece items_piece program_of_tree resolved
a_slot_of_the_top_level = refl

-- x: no program
pub no_program : resolved (t.statement (spot 0 1) (does (uses (codes "x") 0)) ∷ []) ≡ None
unfolding program_scope function_scope block_scope for_three_scope list_scope for_of_scope expr_mentions form_mentions exprs_mentions fields_mentions perhaps_mentions declarators_mentions start_mentions stmt_mentions stmt_form_mentions stmts_mentions item_mentions unresolved_mentions found found_var functions_of repeated blocked look_up mentions assigned_in captures holdings vars_of slot_count slots_of constants_of functions_in fault_at name_fault named_at code_at around_of body_of expr_piece expr_parts form_parts exprs_piece arguments_piece fields_piece perhaps_piece declarators_piece start_piece stmt_piece stmt_parts stmts_piece item_piece items_piece program_of_tree resolved
no_program = refl
