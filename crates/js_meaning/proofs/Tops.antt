-- The definitions compute: constants, declared functions, how deep calls may go, and what a function may hold.
use Rattle.std.proofs.Common.{◌≡◌, ℕ, zero, suc, List, [], ◌∷◌, Option, Some, None, refl}
use Rattle.std.specs.Prelude.{pos, codes}
use Rattle.std.specs.Fmt.{digits}
use Rattle.js_data.specs.declared.fault.Fault.TheVariants as fault
use Rattle.js_tree.specs.declared.tree.Operator.TheVariants as op
use Rattle.js_tree.specs.declared.tree.DeclareKind.TheVariants.{Const, Let}
use Rattle.js_value.specs.Value as v
use Rattle.js_value.specs.Value.{PlainValue}
use Rattle.js_program.specs.declared.builtin.Builtin.TheVariants as form
use Rattle.js_program.specs.declared.builtin.Mode.TheVariants.{Thread}
use Rattle.js_program.specs.declared.node.Variable.TheVariants.{Slot, Constant}
use Rattle.js_program.specs.PlainProgram as p
use Rattle.js_program.specs.PlainProgram.{PlainNodeForm, PlainNode, PlainBody, PlainDeclared, PlainProgram}
use Rattle.js_meaning.specs.State.{Effect, Outcome, says, went, normal, broken}
use Rattle.js_meaning.specs.Meaning.{within, eval}
use Rattle.js_meaning.specs.Bodies.{the_top, function, bare, evaluation, ground_of}
use Rattle.js_meaning.proofs.Small.{on, one, whole, slot, constant, body, statements, program, ends, left}

-- what the top level of a program comes to
abbrev top_comes_to : ℕ → PlainProgram → Outcome
top_comes_to budget p = evaluation (bare p) budget the_top []

-- its end, with this much fuel, these constants and these effects
abbrev top_ends : ℕ → List (Option PlainValue) → List Effect → Outcome
top_ends fuel constants effects =
    went (normal v.undefined) (record { slots = []; constants = Some constants; calls = 0; fuel = fuel; replies = []; effects = effects; delivered = 0 })

-- a declared constant with its value
abbrev fixed : ℕ → ℕ → PlainDeclared
fixed k e = record { variable = Constant k; value = Some e }

-- ---- constants

-- bp.log.info(f()); bp.log.info(v); c; with function f() { return 5 }, var v, and let c on a later line
pub before_declarations : top_comes_to 100 (program
    (constant 0 ∷ one (p.call 0 []) ∷ one (p.builtin form.LogInfo (1 ∷ [])) ∷ one (p.expression 2)
    ∷ constant 1 ∷ one (p.builtin form.LogInfo (4 ∷ [])) ∷ one (p.expression 5)
    ∷ on 2 (p.read (Constant 2)) ∷ on 2 (p.expression 7) ∷ whole 5 ∷ one (p.return_of 9) ∷ [])
    (statements 0 (10 ∷ []) ∷ []) (p.of_function 0 ∷ p.unset ∷ p.undeclared ∷ []) (statements 0 (3 ∷ 6 ∷ 8 ∷ [])))
    ≡ broken fault.Early 2 (left 89 (says (codes "5") ∷ says (codes "undefined") ∷ []))
unfolding evaluation eval within digits
before_declarations = refl

-- const a = 2; const f = () => a; bp.log.info(f()): a function sees the constants so far, and all else
-- what the top level leaves
abbrev two_constants : PlainProgram
two_constants =
    program
    (whole 2 ∷ one (p.declaration Const (fixed 0 0 ∷ [])) ∷ one (p.function 0) ∷ one (p.declaration Const (fixed 1 2 ∷ []))
    ∷ constant 1 ∷ one (p.call 4 []) ∷ one (p.builtin form.LogInfo (5 ∷ [])) ∷ one (p.expression 6) ∷ constant 0 ∷ [])
    (body 0 0 (p.one_value 8) ∷ []) (p.undeclared ∷ p.undeclared ∷ []) (statements 0 (1 ∷ 3 ∷ 7 ∷ []))

pub constants_so_far : top_comes_to 100 two_constants ≡ top_ends 91 (Some (v.whole (pos 2)) ∷ Some (v.function 0 v.no_values) ∷ []) (says (codes "2") ∷ [])
unfolding evaluation eval within digits
constants_so_far = refl

pub constants_of_the_ground : evaluation (ground_of two_constants 100) 7 (function Thread (v.function 0 v.no_values) []) [] ≡ ends (v.whole (pos 2)) 6 []
unfolding ground_of evaluation eval within digits
constants_of_the_ground = refl

-- a top level that faults leaves no constants
pub no_constants_after_a_fault : ground_of (program (whole 1 ∷ whole 0 ∷ one (p.binary op.Divide 0 1) ∷ one (p.expression 2) ∷ []) [] (p.unset ∷ []) (statements 0 (3 ∷ []))) 100
    ≡ bare (program (whole 1 ∷ whole 0 ∷ one (p.binary op.Divide 0 1) ∷ one (p.expression 2) ∷ []) [] (p.unset ∷ []) (statements 0 (3 ∷ [])))
unfolding ground_of evaluation eval within
no_constants_after_a_fault = refl

-- let x = 3; x; as constants and slots of the top level side by side: its slots are gone at its end
pub slots_of_the_top : top_comes_to 100 (program
    (whole 3 ∷ one (p.declaration Let (record { variable = Slot 0; value = Some 0 } ∷ [])) ∷ slot 0 ∷ one (p.builtin form.LogInfo (2 ∷ [])) ∷ one (p.expression 3) ∷ [])
    [] [] (statements 1 (1 ∷ 4 ∷ [])))
    ≡ top_ends 95 [] (says (codes "3") ∷ [])
unfolding evaluation eval within digits
slots_of_the_top = refl

-- ---- calls

-- const f = n => n && f(n - 1): f(k) makes k + 1 calls
abbrev descent : List PlainNode
descent =
    constant 0 ∷ slot 0 ∷ slot 0 ∷ whole 1 ∷ one (p.binary op.Subtract 2 3) ∷ one (p.call 0 (4 ∷ [])) ∷ one (p.binary op.And 1 5)
    ∷ constant 0 ∷ whole 199 ∷ on 9 (p.call 7 (8 ∷ [])) ∷ one (p.expression 9)
    ∷ []

abbrev descends : PlainBody
descends = body 1 1 (p.one_value 6)

-- the top level is not a call, so f(199) stays within 200
pub two_hundred_calls : top_comes_to 2000 (program descent (descends ∷ []) (p.of_function 0 ∷ []) (statements 0 (10 ∷ []))) ≡ top_ends 601 (Some (v.function 0 v.no_values) ∷ []) []
unfolding evaluation eval within
two_hundred_calls = refl

-- a b-thread's own function is its first call, so there it is one too many
pub one_call_more : evaluation (record { program = program descent (descends ∷ statements 0 (10 ∷ []) ∷ []) (p.of_function 0 ∷ []) (statements 0 []); constants = Some (v.function 0 v.no_values) ∷ [] }) 2000
    (function Thread (v.function 1 v.no_values) []) []
    ≡ broken fault.Depth 1 (left 603 [])
unfolding evaluation eval within
one_call_more = refl

-- ---- what a function holds

abbrev nested : ℕ → PlainValue
nested zero = v.list v.no_values
nested (suc n) = v.list (v.value (nested n) v.no_values)

-- function 0 takes a value and gives a function, made on line 4, that captured it
abbrev making : PlainValue → Outcome
making x =
    evaluation (bare (program (on 4 (p.function 1) ∷ []) (body 1 1 (p.one_value 0) ∷ record { parameters = 0; slots = 1; captures = 0 ∷ []; vars = []; content = p.statements []; line = 1 } ∷ []) [] (statements 0 []))) 9
    (function Thread (v.function 0 v.no_values) (x ∷ [])) []

-- of nesting 64 with what it captured, and one level more
pub deepest_function : making (nested 62) ≡ ends (v.function 1 (v.value (nested 62) v.no_values)) 8 []
unfolding evaluation eval within
deepest_function = refl

pub too_deep_function : making (nested 63) ≡ broken fault.Nesting 4 (left 8 [])
unfolding evaluation eval within
too_deep_function = refl

-- [x] and {a: x} on line 4, with x of nesting 64
abbrev holding : PlainNodeForm → Outcome
holding form = evaluation (bare (program (slot 0 ∷ on 4 form ∷ []) (body 1 1 (p.one_value 1) ∷ []) [] (statements 0 []))) 9 (function Thread (v.function 0 v.no_values) (nested 63 ∷ [])) []

pub too_deep_list : holding (p.list (0 ∷ [])) ≡ broken fault.Nesting 4 (left 7 [])
unfolding evaluation eval within
too_deep_list = refl

pub too_deep_fields : holding (p.fields (codes "a" ∷ []) (0 ∷ [])) ≡ broken fault.Nesting 4 (left 7 [])
unfolding evaluation eval within
too_deep_fields = refl

-- ---- a form of b-threads at the top level, and the depth of `forEach`

-- bp.sync({}) at the top level, on line 2
pub sync_at_the_top : top_comes_to 100 (program (one (p.fields [] []) ∷ on 2 (p.builtin form.Sync (0 ∷ [])) ∷ one (p.expression 1) ∷ []) [] [] (statements 0 (2 ∷ [])))
    ≡ broken fault.Mode 2 (left 97 [])
unfolding evaluation eval within
sync_at_the_top = refl

-- [7].forEach(f) on line 5, with 200 calls active
pub for_each_at_the_deepest :
    eval (record { base = bare (program (whole 7 ∷ one (p.list (0 ∷ [])) ∷ one (p.function 0) ∷ on 5 (p.method 1 (codes "forEach") (2 ∷ [])) ∷ []) (statements 0 [] ∷ []) [] (statements 0 [])); mode = Thread; budget = 100 }) 3
    (record { slots = []; constants = None; calls = 200; fuel = 100; replies = []; effects = []; delivered = 0 })
    ≡ broken fault.Depth 5 (left 96 [])
unfolding eval within
for_each_at_the_deepest = refl
