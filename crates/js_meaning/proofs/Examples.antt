-- The definitions compute: numbers of nodes, faults and variables.
use Rattle.std.proofs.Common.{◌≡◌, ℕ, List, [], ◌∷◌, Some, None, refl}
use Rattle.std.specs.Prelude.{pos, codes, true}
use Rattle.std.specs.Fmt.{digits}
use Rattle.js_data.specs.declared.fault.Fault.TheVariants as fault
use Rattle.js_tree.specs.declared.tree.Sign.TheVariants as sign
use Rattle.js_tree.specs.declared.tree.Step.TheVariants.{Increment}
use Rattle.js_tree.specs.declared.tree.Fix.TheVariants.{After}
use Rattle.js_tree.specs.declared.tree.Operator.TheVariants as op
use Rattle.js_tree.specs.declared.tree.AssignOp.TheVariants.{Set, Add}
use Rattle.js_tree.specs.declared.tree.DeclareKind.TheVariants.{Let, Var}
use Rattle.js_value.specs.Value as v
use Rattle.js_program.specs.declared.builtin.Builtin.TheVariants as form
use Rattle.js_program.specs.declared.builtin.Mode.TheVariants.{Thread}
use Rattle.js_program.specs.declared.node.Variable.TheVariants.{Slot}
use Rattle.js_program.specs.PlainProgram as p
use Rattle.js_program.specs.PlainProgram.{PlainNode}
use Rattle.js_meaning.specs.State.{Outcome, says, broken, spent}
use Rattle.js_meaning.specs.Meaning.{within, eval, iterations_of}
use Rattle.js_meaning.specs.Bodies.{the_top, bare, evaluation}
use Rattle.js_meaning.proofs.Small.{on, one, whole, slot, constant, given, body, statements, program, comes_to, ends, left}

-- ---- nodes

-- let a = 1 + 2; let b = a; a + b;
abbrev ten_nodes : List PlainNode
ten_nodes =
    whole 1 ∷ whole 2 ∷ one (p.binary op.Add 0 1) ∷ one (p.declaration Let (given 0 2 ∷ []))
    ∷ slot 0 ∷ one (p.declaration Let (given 1 4 ∷ []))
    ∷ slot 0 ∷ slot 1 ∷ one (p.binary op.Add 6 7) ∷ one (p.expression 8)
    ∷ []

pub ten_nodes_end : comes_to Thread 10 ten_nodes (statements 2 (3 ∷ 5 ∷ 9 ∷ []) ∷ []) ≡ ends v.undefined 0 []
unfolding evaluation eval within
ten_nodes_end = refl

pub nine_are_spent : comes_to Thread 9 ten_nodes (statements 2 (3 ∷ 5 ∷ 9 ∷ []) ∷ []) ≡ spent (left 0 [])
unfolding evaluation eval within
nine_are_spent = refl

-- while (true) {}
pub endless_is_spent : comes_to Thread 10 (one (p.truth true) ∷ one (p.block [] []) ∷ one (p.while_of 0 1) ∷ []) (statements 0 (2 ∷ []) ∷ []) ≡ spent (left 0 [])
unfolding evaluation eval within
endless_is_spent = refl

-- ---- faults, with their lines

-- bp.log.info(9007199254740991); bp.log.info(9007199254740991 + 1)   (the second on line 2)
pub past_the_greatest : comes_to Thread 100
    (whole 9007199254740991 ∷ one (p.builtin form.LogInfo (0 ∷ [])) ∷ one (p.expression 1)
    ∷ on 2 (p.number (pos 9007199254740991)) ∷ whole 1 ∷ on 2 (p.binary op.Add 3 4) ∷ on 2 (p.builtin form.LogInfo (5 ∷ [])) ∷ on 2 (p.expression 6) ∷ [])
    (statements 0 (2 ∷ 7 ∷ []) ∷ [])
    ≡ broken fault.Whole 2 (left 92 (says (codes "9007199254740991") ∷ []))
unfolding evaluation eval within digits
past_the_greatest = refl

-- bp.log.info(-7 % 3); bp.log.info(Math.floor(-7 / 2)); 7 / 2
pub rest_and_fraction : comes_to Thread 100
    (whole 7 ∷ one (p.unary sign.Minus 0) ∷ whole 3 ∷ one (p.binary op.Remainder 1 2) ∷ one (p.builtin form.LogInfo (3 ∷ [])) ∷ one (p.expression 4)
    ∷ whole 7 ∷ one (p.unary sign.Minus 6) ∷ whole 2 ∷ one (p.floor_divide 7 8 []) ∷ one (p.builtin form.LogInfo (9 ∷ [])) ∷ one (p.expression 10)
    ∷ whole 7 ∷ whole 2 ∷ one (p.binary op.Divide 12 13) ∷ one (p.expression 14) ∷ [])
    (statements 0 (5 ∷ 11 ∷ 15 ∷ []) ∷ [])
    ≡ broken fault.Fraction 1 (left 84 (says (codes "-1") ∷ says (codes "-4") ∷ []))
unfolding evaluation eval within digits
rest_and_fraction = refl

-- 1 / 0, at the top level
pub zero_at_the_top :
    evaluation (bare (program (whole 1 ∷ whole 0 ∷ one (p.binary op.Divide 0 1) ∷ one (p.expression 2) ∷ []) [] [] (statements 0 (3 ∷ [])))) 100 the_top []
    ≡ broken fault.Zero 1 (left 96 [])
unfolding evaluation eval within
zero_at_the_top = refl

-- const f = () => f(); with 198 calls active: two more, and not a third
pub too_deep :
    eval (record {
      base = record { program = program (constant 0 ∷ on 5 (p.call 0 []) ∷ []) (body 0 0 (p.one_value 1) ∷ []) (p.undeclared ∷ []) (statements 0 []); constants = Some (v.function 0 v.no_values) ∷ [] };
      mode = Thread;
      budget = 100;
    }) 1 (record { slots = []; constants = None; calls = 198; fuel = 100; replies = []; effects = []; delivered = 0 })
    ≡ broken fault.Depth 5 (left 94 [])
unfolding eval within
too_deep = refl

-- ---- variables

-- for (let i = 0; i < 2; i++) { if (i === 1) x; let x = 7 }: declared in the first iteration, and not yet in
-- the second
pub early_in_the_second_iteration : comes_to Thread 100
    (whole 0 ∷ one (p.declaration Let (given 0 0 ∷ [])) ∷ slot 0 ∷ whole 2 ∷ one (p.binary op.Less 2 3) ∷ one (p.update Increment After 0)
    ∷ slot 0 ∷ whole 1 ∷ one (p.binary op.Same 6 7) ∷ on 3 (p.read (Slot 1)) ∷ on 3 (p.expression 9) ∷ one (p.if_alone 8 10)
    ∷ whole 7 ∷ one (p.declaration Let (given 1 12 ∷ [])) ∷ one (p.block (1 ∷ []) (11 ∷ 13 ∷ []))
    ∷ one (p.for_three (0 ∷ []) (Some 1) (Some 4) (Some 5) 14) ∷ [])
    (statements 2 (15 ∷ []) ∷ [])
    ≡ broken fault.Early 3 (left 76 [])
unfolding evaluation eval within iterations_of
early_in_the_second_iteration = refl

-- let a = 1; let f = () => a; a = 2; return f(): the captured value is that of the making
pub captures_are_copies : comes_to Thread 100
    (whole 1 ∷ one (p.declaration Let (given 0 0 ∷ [])) ∷ one (p.function 1) ∷ one (p.declaration Let (given 1 2 ∷ []))
    ∷ whole 2 ∷ one (p.assign Set 0 4) ∷ one (p.expression 5) ∷ slot 1 ∷ one (p.call 7 []) ∷ one (p.return_of 8) ∷ slot 0 ∷ [])
    (statements 2 (1 ∷ 3 ∷ 6 ∷ 9 ∷ []) ∷ record { parameters = 0; slots = 1; captures = 0 ∷ []; vars = []; content = p.one_value 10; line = 1 } ∷ [])
    ≡ ends (v.whole (pos 1)) 89 []
unfolding evaluation eval within
captures_are_copies = refl

-- { x = 1 / 0; let x }: x is looked at after its value
pub assigned_before_declared : comes_to Thread 100
    (whole 1 ∷ whole 0 ∷ one (p.binary op.Divide 0 1) ∷ one (p.assign Set 0 2) ∷ one (p.expression 3)
    ∷ one (p.declaration Let (record { variable = Slot 0; value = None } ∷ [])) ∷ one (p.block (0 ∷ []) (4 ∷ 5 ∷ [])) ∷ [])
    (statements 1 (6 ∷ []) ∷ [])
    ≡ broken fault.Zero 1 (left 94 [])
unfolding evaluation eval within
assigned_before_declared = refl

-- (function(a, b) { return b })(1), and with three arguments: a missing one is undefined, and one too
-- many is dropped
abbrev second_of : List ℕ → List PlainNode
second_of arguments = one (p.function 1) ∷ whole 1 ∷ whole 2 ∷ whole 3 ∷ one (p.call 0 arguments) ∷ one (p.return_of 4) ∷ slot 1 ∷ one (p.return_of 6) ∷ []

pub missing_argument : comes_to Thread 100 (second_of (1 ∷ [])) (statements 0 (5 ∷ []) ∷ body 2 2 (p.statements (7 ∷ [])) ∷ []) ≡ ends v.undefined 94 []
unfolding evaluation eval within
missing_argument = refl

pub further_argument : comes_to Thread 100 (second_of (1 ∷ 2 ∷ 3 ∷ [])) (statements 0 (5 ∷ []) ∷ body 2 2 (p.statements (7 ∷ [])) ∷ []) ≡ ends (v.whole (pos 2)) 92 []
unfolding evaluation eval within
further_argument = refl

-- a `var` is undefined until its declaration runs, and `var x` sets nothing
pub unset_var : comes_to Thread 100
    (slot 0 ∷ one (p.builtin form.LogInfo (0 ∷ [])) ∷ one (p.expression 1) ∷ whole 1 ∷ one (p.declaration Var (given 0 3 ∷ []))
    ∷ one (p.declaration Var (record { variable = Slot 0; value = None } ∷ [])) ∷ slot 0 ∷ one (p.return_of 6) ∷ [])
    (record { parameters = 0; slots = 1; captures = []; vars = 0 ∷ []; content = p.statements (2 ∷ 4 ∷ 5 ∷ 7 ∷ []); line = 1 } ∷ [])
    ≡ ends (v.whole (pos 1)) 92 (says (codes "undefined") ∷ [])
unfolding evaluation eval within
unset_var = refl

-- let a = 5, b = a - 1; let f = () => a - b; return f(): declared in order, and captured in order
pub captures_in_order : comes_to Thread 100
    (whole 5 ∷ slot 0 ∷ whole 1 ∷ one (p.binary op.Subtract 1 2) ∷ one (p.declaration Let (given 0 0 ∷ given 1 3 ∷ [])) ∷ one (p.function 1) ∷ one (p.declaration Let (given 2 5 ∷ []))
    ∷ slot 2 ∷ one (p.call 7 []) ∷ one (p.return_of 8) ∷ slot 0 ∷ slot 1 ∷ one (p.binary op.Subtract 10 11) ∷ [])
    (statements 3 (4 ∷ 6 ∷ 9 ∷ []) ∷ record { parameters = 0; slots = 2; captures = 0 ∷ 1 ∷ []; vars = []; content = p.one_value 12; line = 1 } ∷ [])
    ≡ ends (v.whole (pos 1)) 87 []
unfolding evaluation eval within
captures_in_order = refl

-- let x; return x
pub let_without_value : comes_to Thread 100 (one (p.declaration Let (record { variable = Slot 0; value = None } ∷ [])) ∷ slot 0 ∷ one (p.return_of 1) ∷ []) (statements 1 (0 ∷ 2 ∷ []) ∷ []) ≡ ends v.undefined 97 []
unfolding evaluation eval within
let_without_value = refl

-- 1() with 200 calls active: that it is not a function comes before the depth
pub no_function_at_the_deepest :
    eval (record { base = bare (program (whole 1 ∷ on 5 (p.call 0 []) ∷ []) [] [] (statements 0 [])); mode = Thread; budget = 100 }) 1
    (record { slots = []; constants = None; calls = 200; fuel = 100; replies = []; effects = []; delivered = 0 })
    ≡ broken fault.Mistyped 5 (left 98 [])
unfolding eval within
no_function_at_the_deepest = refl

-- let c = 9; let f = a => c; return f(1, 2): an argument that no parameter takes is dropped, and stands
-- in no slot
pub dropped_argument : comes_to Thread 100
    (whole 9 ∷ one (p.declaration Let (given 0 0 ∷ [])) ∷ one (p.function 1) ∷ one (p.declaration Let (given 1 2 ∷ [])) ∷ slot 1 ∷ whole 1 ∷ whole 2 ∷ one (p.call 4 (5 ∷ 6 ∷ [])) ∷ one (p.return_of 7) ∷ slot 1 ∷ [])
    (statements 2 (1 ∷ 3 ∷ 8 ∷ []) ∷ record { parameters = 1; slots = 2; captures = 0 ∷ []; vars = []; content = p.one_value 9; line = 1 } ∷ [])
    ≡ ends (v.whole (pos 9)) 90 []
unfolding evaluation eval within
dropped_argument = refl

-- { x++; let x }, { x = 1; let x } and { x += 1; let x }, with x on line 2
abbrev before_let : PlainNode → Outcome
before_let node =
    comes_to Thread 100
    (whole 1 ∷ node ∷ one (p.expression 1) ∷ one (p.declaration Let (record { variable = Slot 0; value = None } ∷ [])) ∷ one (p.block (0 ∷ []) (2 ∷ 3 ∷ [])) ∷ [])
    (statements 1 (4 ∷ []) ∷ [])

pub early_update : before_let (on 2 (p.update Increment After 0)) ≡ broken fault.Early 2 (left 97 [])
unfolding evaluation eval within
early_update = refl

pub early_assignment : before_let (on 2 (p.assign Set 0 0)) ≡ broken fault.Early 2 (left 96 [])
unfolding evaluation eval within
early_assignment = refl

pub early_sum : before_let (on 2 (p.assign Add 0 0)) ≡ broken fault.Early 2 (left 97 [])
unfolding evaluation eval within
early_sum = refl

-- x; let x = 1, directly in the function's body (the first x on line 2)
pub early_in_the_body : comes_to Thread 100
    (on 2 (p.read (Slot 0)) ∷ on 2 (p.expression 0) ∷ whole 1 ∷ one (p.declaration Let (given 0 2 ∷ [])) ∷ []) (statements 1 (1 ∷ 3 ∷ []) ∷ [])
    ≡ broken fault.Early 2 (left 98 [])
unfolding evaluation eval within
early_in_the_body = refl

-- return [a, b]; var a, b: each `var` is undefined
pub unset_vars : comes_to Thread 100
    (slot 0 ∷ slot 1 ∷ one (p.list (0 ∷ 1 ∷ [])) ∷ one (p.return_of 2)
    ∷ one (p.declaration Var (record { variable = Slot 0; value = None } ∷ record { variable = Slot 1; value = None } ∷ [])) ∷ [])
    (record { parameters = 0; slots = 2; captures = []; vars = 0 ∷ 1 ∷ []; content = p.statements (3 ∷ 4 ∷ []); line = 1 } ∷ [])
    ≡ ends (v.list (v.value v.undefined (v.value v.undefined v.no_values))) 96 []
unfolding evaluation eval within
unset_vars = refl
