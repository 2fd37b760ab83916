-- The definitions compute: each operator, each assignment and update, members, methods and forms of values.
use Rattle.std.proofs.Common.{◌≡◌, ℕ, List, [], ◌∷◌, ◌++◌, refl}
use Rattle.std.specs.Prelude.{pos, negsuc, codes, true, false, replicate}
use Rattle.std.specs.Fmt.{digits}
use Rattle.js_data.specs.declared.fault.Fault.TheVariants as fault
use Rattle.js_data.proofs.Shared.{named}
use Rattle.js_tree.specs.declared.tree.Sign.TheVariants as sign
use Rattle.js_tree.specs.declared.tree.Step.TheVariants.{Increment, Decrement}
use Rattle.js_tree.specs.declared.tree.Fix.TheVariants.{Before, After}
use Rattle.js_tree.specs.declared.tree.Operator.TheVariants as op
use Rattle.js_tree.specs.declared.tree.AssignOp.TheVariants as assign
use Rattle.js_tree.specs.declared.tree.DeclareKind.TheVariants.{Let}
use Rattle.js_value.specs.Value as v
use Rattle.js_value.specs.Value.{PlainValue}
use Rattle.js_value.specs.Lists.{value_list_of}
use Rattle.js_program.specs.declared.builtin.Builtin.TheVariants as form
use Rattle.js_program.specs.declared.builtin.Mode.TheVariants.{Thread}
use Rattle.js_program.specs.PlainProgram as p
use Rattle.js_program.specs.PlainProgram.{PlainNode, PlainNodeForm}
use Rattle.js_meaning.specs.State.{Outcome, says, broken}
use Rattle.js_meaning.specs.Meaning.{within, eval}
use Rattle.js_meaning.specs.Bodies.{evaluation}
use Rattle.js_meaning.proofs.Small.{on, one, whole, slot, given, statements, comes_to, ends, left}

abbrev number : ℕ → PlainValue
number n = v.whole (pos n)

abbrev list : List PlainValue → PlainValue
list xs = v.list (value_list_of xs)

-- ---- operators

-- the nodes of `return [..]` with these operators on the first seven nodes: 7, 2, 6, 3, null, undefined, "a"
abbrev operands : List PlainNode
operands = whole 7 ∷ whole 2 ∷ whole 6 ∷ whole 3 ∷ one p.null ∷ one p.undefined ∷ one (p.text (codes "a")) ∷ []

-- return [7 + 2, 7 - 2, 7 * 2, 6 / 3, 7 % 2]
pub arithmetic : comes_to Thread 100
    (operands
    ++ one (p.binary op.Add 0 1) ∷ one (p.binary op.Subtract 0 1) ∷ one (p.binary op.Multiply 0 1) ∷ one (p.binary op.Divide 2 3) ∷ one (p.binary op.Remainder 0 1)
    ∷ one (p.list (7 ∷ 8 ∷ 9 ∷ 10 ∷ 11 ∷ [])) ∷ one (p.return_of 12) ∷ [])
    (statements 0 (13 ∷ []) ∷ [])
    ≡ ends (list (number 9 ∷ number 5 ∷ number 14 ∷ number 2 ∷ number 1 ∷ [])) 83 []
unfolding evaluation eval within
arithmetic = refl

-- return [2 < 7, 2 < 2, 2 <= 2, 7 > 2, 2 > 2, 2 >= 2]
pub comparisons : comes_to Thread 100
    (operands
    ++ one (p.binary op.Less 1 0) ∷ one (p.binary op.Less 1 1) ∷ one (p.binary op.LessOrEqual 1 1) ∷ one (p.binary op.Greater 0 1) ∷ one (p.binary op.Greater 1 1) ∷ one (p.binary op.GreaterOrEqual 1 1)
    ∷ one (p.list (7 ∷ 8 ∷ 9 ∷ 10 ∷ 11 ∷ 12 ∷ [])) ∷ one (p.return_of 13) ∷ [])
    (statements 0 (14 ∷ []) ∷ [])
    ≡ ends (list (v.truth true ∷ v.truth false ∷ v.truth true ∷ v.truth true ∷ v.truth false ∷ v.truth true ∷ [])) 80 []
unfolding evaluation eval within
comparisons = refl

-- return [null === undefined, null !== undefined, null == undefined, null != undefined]
pub equalities : comes_to Thread 100
    (operands
    ++ one (p.binary op.Same 4 5) ∷ one (p.binary op.NotSame 4 5) ∷ one (p.binary op.Equal 4 5) ∷ one (p.binary op.NotEqual 4 5)
    ∷ one (p.list (7 ∷ 8 ∷ 9 ∷ 10 ∷ [])) ∷ one (p.return_of 11) ∷ [])
    (statements 0 (12 ∷ []) ∷ [])
    ≡ ends (list (v.truth false ∷ v.truth true ∷ v.truth true ∷ v.truth false ∷ [])) 86 []
unfolding evaluation eval within
equalities = refl

-- return [!7, -7, +7]
pub signs : comes_to Thread 100
    (operands
    ++ one (p.unary sign.Not 0) ∷ one (p.unary sign.Minus 0) ∷ one (p.unary sign.Plus 0) ∷ one (p.list (7 ∷ 8 ∷ 9 ∷ [])) ∷ one (p.return_of 10) ∷ [])
    (statements 0 (11 ∷ []) ∷ [])
    ≡ ends (list (v.truth false ∷ v.whole (negsuc 6) ∷ number 7 ∷ [])) 92 []
unfolding evaluation eval within
signs = refl

-- ---- variables

-- let x = 5; return [x++, x, ++x, x--, --x]
pub updated : comes_to Thread 100
    (whole 5 ∷ one (p.declaration Let (given 0 0 ∷ []))
    ∷ one (p.update Increment After 0) ∷ slot 0 ∷ one (p.update Increment Before 0) ∷ one (p.update Decrement After 0) ∷ one (p.update Decrement Before 0)
    ∷ one (p.list (2 ∷ 3 ∷ 4 ∷ 5 ∷ 6 ∷ [])) ∷ one (p.return_of 7) ∷ [])
    (statements 1 (1 ∷ 8 ∷ []) ∷ [])
    ≡ ends (list (number 5 ∷ number 6 ∷ number 7 ∷ number 7 ∷ number 5 ∷ [])) 91 []
unfolding evaluation eval within
updated = refl

-- let x = 7; return [x += 2, x -= 3, x *= 4, x /= 6, x %= 3, x = 5, x]
pub assigned : comes_to Thread 100
    (whole 7 ∷ one (p.declaration Let (given 0 0 ∷ []))
    ∷ whole 2 ∷ one (p.assign assign.Add 0 2) ∷ whole 3 ∷ one (p.assign assign.Subtract 0 4) ∷ whole 4 ∷ one (p.assign assign.Multiply 0 6)
    ∷ whole 6 ∷ one (p.assign assign.Divide 0 8) ∷ whole 3 ∷ one (p.assign assign.Remainder 0 10) ∷ whole 5 ∷ one (p.assign assign.Set 0 12)
    ∷ slot 0 ∷ one (p.list (3 ∷ 5 ∷ 7 ∷ 9 ∷ 11 ∷ 13 ∷ 14 ∷ [])) ∷ one (p.return_of 15) ∷ [])
    (statements 1 (1 ∷ 16 ∷ []) ∷ [])
    ≡ ends (list (number 9 ∷ number 6 ∷ number 24 ∷ number 4 ∷ number 1 ∷ number 5 ∷ number 5 ∷ [])) 83 []
unfolding evaluation eval within
assigned = refl

-- let x = 1; return x += (x = 5): x is read before the right side
pub read_before : comes_to Thread 100
    (whole 1 ∷ one (p.declaration Let (given 0 0 ∷ [])) ∷ whole 5 ∷ one (p.assign assign.Set 0 2) ∷ one (p.assign assign.Add 0 3) ∷ one (p.return_of 4) ∷ [])
    (statements 1 (1 ∷ 5 ∷ []) ∷ [])
    ≡ ends (number 6) 94 []
unfolding evaluation eval within
read_before = refl

-- ---- members, places and methods

-- return ["a", 7][1], and of {a: 1, b: 2} the field "b"
pub places : comes_to Thread 100
    (one (p.text (codes "a")) ∷ whole 7 ∷ one (p.list (0 ∷ 1 ∷ [])) ∷ whole 1 ∷ one (p.index 2 3)
    ∷ whole 1 ∷ whole 2 ∷ one (p.fields (codes "a" ∷ codes "b" ∷ []) (5 ∷ 6 ∷ [])) ∷ one (p.text (codes "b")) ∷ one (p.index 7 8)
    ∷ one (p.list (4 ∷ 9 ∷ [])) ∷ one (p.return_of 10) ∷ [])
    (statements 0 (11 ∷ []) ∷ [])
    ≡ ends (list (number 7 ∷ number 2 ∷ [])) 88 []
unfolding evaluation eval within
places = refl

-- return ["ab".startsWith("a"), "ab".endsWith("a"), [7].concat([6], 3)]
pub methods_of_texts_and_lists : comes_to Thread 100
    (one (p.text (codes "ab")) ∷ one (p.text (codes "a")) ∷ one (p.method 0 (codes "startsWith") (1 ∷ [])) ∷ one (p.method 0 (codes "endsWith") (1 ∷ []))
    ∷ whole 7 ∷ one (p.list (4 ∷ [])) ∷ whole 6 ∷ one (p.list (6 ∷ [])) ∷ whole 3 ∷ one (p.method 5 (codes "concat") (7 ∷ 8 ∷ []))
    ∷ one (p.list (2 ∷ 3 ∷ 9 ∷ [])) ∷ one (p.return_of 10) ∷ [])
    (statements 0 (11 ∷ []) ∷ [])
    ≡ ends (list (v.truth true ∷ v.truth false ∷ list (number 7 ∷ number 6 ∷ number 3 ∷ []) ∷ [])) 86 []
unfolding evaluation eval within
methods_of_texts_and_lists = refl

-- with e = bp.Event("e"): return [e.or(bp.all), e.and(bp.none), e.xor(bp.all), e.negate()]
pub methods_of_sets : comes_to Thread 100
    (one (p.text (codes "e")) ∷ one (p.builtin form.Event (0 ∷ [])) ∷ one (p.builtin form.All []) ∷ one (p.builtin form.Nothing [])
    ∷ one (p.method 1 (codes "or") (2 ∷ [])) ∷ one (p.method 1 (codes "and") (3 ∷ [])) ∷ one (p.method 1 (codes "xor") (2 ∷ [])) ∷ one (p.method 1 (codes "negate") [])
    ∷ one (p.list (4 ∷ 5 ∷ 6 ∷ 7 ∷ [])) ∷ one (p.return_of 8) ∷ [])
    (statements 0 (9 ∷ []) ∷ [])
    ≡ ends (list (v.set (v.or (v.only (named (codes "e"))) v.all) ∷ v.set (v.and (v.only (named (codes "e"))) v.nothing)
    ∷ v.set (v.xor (v.only (named (codes "e"))) v.all) ∷ v.set (v.negate (v.only (named (codes "e")))) ∷ [])) 83 []
unfolding evaluation eval within
methods_of_sets = refl

-- [7].push(7): a word that is not a method
pub no_method : comes_to Thread 100 (whole 7 ∷ one (p.list (0 ∷ [])) ∷ on 2 (p.method 1 (codes "push") (0 ∷ [])) ∷ one (p.expression 2) ∷ []) (statements 0 (3 ∷ []) ∷ [])
    ≡ broken fault.Mistyped 2 (left 95 [])
unfolding evaluation eval within
no_method = refl

-- ---- forms of values

-- bp.log.info([7, "a"]); bp.log.info({a: null}); return Math.floor(7)
pub logged_values : comes_to Thread 100
    (whole 7 ∷ one (p.text (codes "a")) ∷ one (p.list (0 ∷ 1 ∷ [])) ∷ one (p.builtin form.LogInfo (2 ∷ [])) ∷ one (p.expression 3)
    ∷ one p.null ∷ one (p.fields (codes "a" ∷ []) (5 ∷ [])) ∷ one (p.builtin form.LogInfo (6 ∷ [])) ∷ one (p.expression 7)
    ∷ one (p.builtin form.Floor (0 ∷ [])) ∷ one (p.return_of 9) ∷ [])
    (statements 0 (4 ∷ 8 ∷ 10 ∷ []) ∷ [])
    ≡ ends (number 7) 88 (says (codes "[7,\"a\"]") ∷ says (codes "{\"a\":null}") ∷ [])
unfolding evaluation eval within digits
logged_values = refl

-- bp.log.info([undefined]): undefined is not a data; and Math.floor("a")
pub logged_no_data : comes_to Thread 100 (one p.undefined ∷ one (p.list (0 ∷ [])) ∷ on 3 (p.builtin form.LogInfo (1 ∷ [])) ∷ one (p.expression 2) ∷ []) (statements 0 (3 ∷ []) ∷ [])
    ≡ broken fault.Mistyped 3 (left 96 [])
unfolding evaluation eval within
logged_no_data = refl

pub floor_of_text : comes_to Thread 100 (one (p.text (codes "a")) ∷ on 3 (p.builtin form.Floor (0 ∷ [])) ∷ one (p.expression 1) ∷ []) (statements 0 (2 ∷ []) ∷ [])
    ≡ broken fault.Mistyped 3 (left 97 [])
unfolding evaluation eval within
floor_of_text = refl

-- return bp.EventSet("s", f), where f captures nothing
pub set_by_a_function : comes_to Thread 100 (one (p.text (codes "s")) ∷ one (p.function 0) ∷ one (p.builtin form.EventSet (0 ∷ 1 ∷ [])) ∷ one (p.return_of 2) ∷ []) (statements 0 (3 ∷ []) ∷ [])
    ≡ ends (v.set (v.predicate (codes "s") 0 v.no_values)) 96 []
unfolding evaluation eval within
set_by_a_function = refl

-- ---- limits of what an expression makes

-- a text of 65,535 bytes is within the limit of weight, and one of 65,536 is past it
pub heaviest_text : comes_to Thread 100 (one (p.text (replicate 65_535 97)) ∷ one (p.expression 0) ∷ []) (statements 0 (1 ∷ []) ∷ []) ≡ ends v.undefined 98 []
unfolding evaluation eval within
heaviest_text = refl

pub too_heavy_text : comes_to Thread 100 (on 4 (p.text (replicate 65_536 97)) ∷ one (p.expression 0) ∷ []) (statements 0 (1 ∷ []) ∷ []) ≡ broken fault.Weight 4 (left 98 [])
unfolding evaluation eval within
too_heavy_text = refl

-- ---- the lines of faults

-- with x = "a", [7], {} and 1 before it, a node on line 5
abbrev on_line_5 : PlainNodeForm → Outcome
on_line_5 form =
    comes_to Thread 100
    (one (p.text (codes "a")) ∷ one (p.declaration Let (given 0 0 ∷ [])) ∷ whole 7 ∷ one (p.list (2 ∷ [])) ∷ one (p.fields [] []) ∷ whole 1 ∷ on 5 form ∷ one (p.expression 6) ∷ [])
    (statements 1 (1 ∷ 7 ∷ []) ∷ [])

-- x++, x -= 1, -"a"
pub update_of_text : on_line_5 (p.update Increment After 0) ≡ broken fault.Mistyped 5 (left 96 [])
unfolding evaluation eval within
update_of_text = refl

pub difference_of_text : on_line_5 (p.assign assign.Subtract 0 5) ≡ broken fault.Mistyped 5 (left 95 [])
unfolding evaluation eval within
difference_of_text = refl

pub minus_of_text : on_line_5 (p.unary sign.Minus 0) ≡ broken fault.Mistyped 5 (left 95 [])
unfolding evaluation eval within
minus_of_text = refl

-- (1).name, [7][1]
pub member_of_number : on_line_5 (p.member 5 (codes "name")) ≡ broken fault.Mistyped 5 (left 95 [])
unfolding evaluation eval within
member_of_number = refl

pub index_outside : on_line_5 (p.index 3 5) ≡ broken fault.Index 5 (left 93 [])
unfolding evaluation eval within
index_outside = refl

-- "a".push(), "a".startsWith(1), ({}).f()
pub no_method_of_text : on_line_5 (p.method 0 (codes "push") []) ≡ broken fault.Mistyped 5 (left 95 [])
unfolding evaluation eval within
no_method_of_text = refl

pub start_that_is_no_text : on_line_5 (p.method 0 (codes "startsWith") (5 ∷ [])) ≡ broken fault.Mistyped 5 (left 94 [])
unfolding evaluation eval within
start_that_is_no_text = refl

pub absent_field_is_called : on_line_5 (p.method 4 (codes "f") []) ≡ broken fault.Mistyped 5 (left 95 [])
unfolding evaluation eval within
absent_field_is_called = refl
