-- The definitions compute: short circuits, loops, calls of functions, and forms in their modes.
use Rattle.std.proofs.Common.{◌≡◌, ℕ, List, [], ◌∷◌, Some, None, refl}
use Rattle.std.specs.Prelude.{Bool, map, pos, codes, true, false}
use Rattle.std.specs.Fmt.{digits}
use Rattle.js_data.specs.declared.fault.Fault.TheVariants as fault
use Rattle.js_data.proofs.Shared.{named}
use Rattle.js_tree.specs.declared.tree.Step.TheVariants.{Increment}
use Rattle.js_tree.specs.declared.tree.Fix.TheVariants.{After}
use Rattle.js_tree.specs.declared.tree.Operator.TheVariants as op
use Rattle.js_tree.specs.declared.tree.DeclareKind.TheVariants.{Let}
use Rattle.js_value.specs.Value as v
use Rattle.js_program.specs.declared.builtin.Builtin.{Builtin}
use Rattle.js_program.specs.declared.builtin.Builtin.TheVariants as form
use Rattle.js_program.specs.declared.builtin.Mode.{Mode}
use Rattle.js_program.specs.declared.builtin.Mode.TheVariants.{Top, Thread, Handler, Predicate}
use Rattle.js_program.specs.declared.node.Variable.TheVariants.{Slot}
use Rattle.js_program.specs.Builtins.{has_effect_in}
use Rattle.js_program.specs.PlainProgram as p
use Rattle.js_meaning.specs.State.{Outcome, says, enqueues, registers, handles, broken, violated, stopped}
use Rattle.js_meaning.specs.Meaning.{within, eval, iterations_of}
use Rattle.js_meaning.specs.Bodies.{function, evaluation}
use Rattle.js_meaning.proofs.Small.{on, one, whole, slot, given, body, statements, of_functions, comes_to, ends, left}

-- return false && 1 / 0; and return 0 || "a": the right side only where it is needed
pub and_stops : comes_to Thread 100
    (one (p.truth false) ∷ whole 1 ∷ whole 0 ∷ one (p.binary op.Divide 1 2) ∷ one (p.binary op.And 0 3) ∷ one (p.return_of 4) ∷ []) (statements 0 (5 ∷ []) ∷ [])
    ≡ ends (v.truth false) 97 []
unfolding evaluation eval within
and_stops = refl

pub or_goes_on : comes_to Thread 100
    (whole 0 ∷ one (p.text (codes "a")) ∷ one (p.binary op.Or 0 1) ∷ one (p.return_of 2) ∷ []) (statements 0 (3 ∷ []) ∷ [])
    ≡ ends (v.text (codes "a")) 96 []
unfolding evaluation eval within
or_goes_on = refl

-- for (let i = 0; i < 9; i++) { if (i === 1) { continue } if (i === 3) { break } bp.log.info(i) }
pub break_and_continue : comes_to Thread 200
    (whole 0 ∷ one (p.declaration Let (given 0 0 ∷ [])) ∷ slot 0 ∷ whole 9 ∷ one (p.binary op.Less 2 3) ∷ one (p.update Increment After 0)
    ∷ slot 0 ∷ whole 1 ∷ one (p.binary op.Same 6 7) ∷ one p.continue_of ∷ one (p.block [] (9 ∷ [])) ∷ one (p.if_alone 8 10)
    ∷ slot 0 ∷ whole 3 ∷ one (p.binary op.Same 12 13) ∷ one p.break_of ∷ one (p.block [] (15 ∷ [])) ∷ one (p.if_alone 14 16)
    ∷ slot 0 ∷ one (p.builtin form.LogInfo (18 ∷ [])) ∷ one (p.expression 19) ∷ one (p.block [] (11 ∷ 17 ∷ 20 ∷ []))
    ∷ one (p.for_three (0 ∷ []) (Some 1) (Some 4) (Some 5) 21) ∷ [])
    (statements 1 (22 ∷ []) ∷ [])
    ≡ ends v.undefined 140 (says (codes "0") ∷ says (codes "2") ∷ [])
unfolding evaluation eval within iterations_of digits
break_and_continue = refl

-- for (const x of ["a", "b", "c"]) { if (x === "b") return x; }
pub for_of_returns : comes_to Thread 100
    (one (p.text (codes "a")) ∷ one (p.text (codes "b")) ∷ one (p.text (codes "c")) ∷ one (p.list (0 ∷ 1 ∷ 2 ∷ []))
    ∷ slot 0 ∷ one (p.text (codes "b")) ∷ one (p.binary op.Same 4 5) ∷ slot 0 ∷ one (p.return_of 7) ∷ one (p.if_alone 6 8) ∷ one (p.block [] (9 ∷ []))
    ∷ one (p.for_of 0 3 10) ∷ [])
    (statements 1 (11 ∷ []) ∷ [])
    ≡ ends (v.text (codes "b")) 83 []
unfolding evaluation eval within
for_of_returns = refl

-- for (const x of 1) ;   (on line 4)
pub for_of_no_list : comes_to Thread 100 (whole 1 ∷ one p.empty ∷ on 4 (p.for_of 0 0 1) ∷ []) (statements 1 (2 ∷ []) ∷ [])
    ≡ broken fault.Mistyped 4 (left 98 [])
unfolding evaluation eval within
for_of_no_list = refl

-- [1, 2].forEach((x, i) => bp.log.info(x + i))
pub for_each_calls : comes_to Thread 100
    (whole 1 ∷ whole 2 ∷ one (p.list (0 ∷ 1 ∷ [])) ∷ one (p.function 1) ∷ one (p.method 2 (codes "forEach") (3 ∷ [])) ∷ one (p.return_of 4)
    ∷ slot 0 ∷ slot 1 ∷ one (p.binary op.Add 6 7) ∷ one (p.builtin form.LogInfo (8 ∷ [])) ∷ [])
    (statements 0 (5 ∷ []) ∷ body 2 2 (p.one_value 9) ∷ [])
    ≡ ends v.undefined 86 (says (codes "1") ∷ says (codes "3") ∷ [])
unfolding evaluation eval within digits
for_each_calls = refl

-- [1, 2].forEach(() => {}): its calls begin no node
pub for_each_of_nothing : comes_to Thread 100
    (whole 1 ∷ whole 2 ∷ one (p.list (0 ∷ 1 ∷ [])) ∷ one (p.function 1) ∷ one (p.method 2 (codes "forEach") (3 ∷ [])) ∷ one (p.expression 4) ∷ [])
    (statements 0 (5 ∷ []) ∷ body 0 0 (p.statements []) ∷ [])
    ≡ ends v.undefined 94 []
unfolding evaluation eval within
for_each_of_nothing = refl

-- [].forEach(1)
pub for_each_no_function : comes_to Thread 100
    (one (p.list []) ∷ whole 1 ∷ one (p.method 0 (codes "forEach") (1 ∷ [])) ∷ one (p.expression 2) ∷ []) (statements 0 (3 ∷ []) ∷ [])
    ≡ broken fault.Mistyped 1 (left 96 [])
unfolding evaluation eval within
for_each_no_function = refl

-- ({f: a => a}).f(5): a method of fields is the field's value, called
pub field_is_called : comes_to Thread 100
    (one (p.function 1) ∷ one (p.fields (codes "f" ∷ []) (0 ∷ [])) ∷ whole 5 ∷ one (p.method 1 (codes "f") (2 ∷ [])) ∷ one (p.return_of 3) ∷ slot 0 ∷ [])
    (statements 0 (4 ∷ []) ∷ body 1 1 (p.one_value 5) ∷ [])
    ≡ ends (v.whole (pos 5)) 94 []
unfolding evaluation eval within
field_is_called = refl

-- 1(2 / 0): no function, but its arguments come first
pub arguments_before_callee : comes_to Thread 100
    (whole 1 ∷ whole 2 ∷ whole 0 ∷ one (p.binary op.Divide 1 2) ∷ one (p.call 0 (3 ∷ [])) ∷ one (p.expression 4) ∷ []) (statements 0 (5 ∷ []) ∷ [])
    ≡ broken fault.Zero 1 (left 94 [])
unfolding evaluation eval within
arguments_before_callee = refl

-- ---- forms and modes

-- the forms in the order registerBThread, sync, Event, EventSet, all, none, ASSERT,
-- enqueueExternalEvent, setInterruptHandler, log.info, floor
abbrev forms_in : Mode → List Bool
forms_in mode =
    map (has_effect_in mode)
    (form.RegisterBThread ∷ form.Sync ∷ form.Event ∷ form.EventSet ∷ form.All ∷ form.Nothing ∷ form.Assert ∷ form.EnqueueExternalEvent ∷ form.SetInterruptHandler ∷ form.LogInfo ∷ form.Floor ∷ [])

pub forms_of_the_top : forms_in Top ≡ true ∷ false ∷ true ∷ true ∷ true ∷ true ∷ true ∷ true ∷ false ∷ true ∷ true ∷ []
forms_of_the_top = refl

pub forms_of_threads : forms_in Thread ≡ true ∷ true ∷ true ∷ true ∷ true ∷ true ∷ true ∷ true ∷ true ∷ true ∷ true ∷ []
forms_of_threads = refl

pub forms_of_handlers : forms_in Handler ≡ true ∷ false ∷ true ∷ true ∷ true ∷ true ∷ true ∷ true ∷ false ∷ true ∷ true ∷ []
forms_of_handlers = refl

pub forms_of_predicates : forms_in Predicate ≡ false ∷ false ∷ true ∷ true ∷ true ∷ true ∷ false ∷ false ∷ false ∷ false ∷ true ∷ []
forms_of_predicates = refl

-- bp.sync({}) in a handler is the fault `mode`, and bp.sync(1 / 0) there the fault of its argument
pub sync_in_a_handler : comes_to Handler 100 (one (p.fields [] []) ∷ one (p.builtin form.Sync (0 ∷ [])) ∷ one (p.expression 1) ∷ []) (statements 0 (2 ∷ []) ∷ [])
    ≡ broken fault.Mode 1 (left 97 [])
unfolding evaluation eval within
sync_in_a_handler = refl

pub argument_before_mode : comes_to Handler 100
    (whole 1 ∷ whole 0 ∷ one (p.binary op.Divide 0 1) ∷ one (p.builtin form.Sync (2 ∷ [])) ∷ one (p.expression 3) ∷ []) (statements 0 (4 ∷ []) ∷ [])
    ≡ broken fault.Zero 1 (left 95 [])
unfolding evaluation eval within
argument_before_mode = refl

-- bp.log.info(1) in a predicate
pub log_in_a_predicate : comes_to Predicate 100 (whole 1 ∷ one (p.builtin form.LogInfo (0 ∷ [])) ∷ one (p.expression 1) ∷ []) (statements 0 (2 ∷ []) ∷ [])
    ≡ broken fault.Mode 1 (left 97 [])
unfolding evaluation eval within
log_in_a_predicate = refl

-- bp.sync({}, 3) without a reply stops, and bp.ASSERT(0, "no") ends the run
pub sync_stops : comes_to Thread 100 (one (p.fields [] []) ∷ whole 3 ∷ on 2 (p.builtin form.Sync (0 ∷ 1 ∷ [])) ∷ one (p.expression 2) ∷ []) (statements 0 (3 ∷ []) ∷ [])
    ≡ stopped (v.fields v.no_fields) (v.whole (pos 3)) 2 (left 96 [])
unfolding evaluation eval within
sync_stops = refl

pub assertion_fails : comes_to Thread 100 (whole 0 ∷ one (p.text (codes "no")) ∷ one (p.builtin form.Assert (0 ∷ 1 ∷ [])) ∷ one (p.expression 2) ∷ []) (statements 0 (3 ∷ []) ∷ [])
    ≡ violated (codes "no") (left 96 [])
unfolding evaluation eval within
assertion_fails = refl

-- return bp.sync({}).name, with a reply: it is the value, and the fuel is the whole budget again
pub reply_is_the_value :
    evaluation (of_functions (one (p.fields [] []) ∷ one (p.builtin form.Sync (0 ∷ [])) ∷ one (p.member 1 (codes "name")) ∷ one (p.return_of 2) ∷ []) (statements 0 (3 ∷ []) ∷ [])) 7
    (function Thread (v.function 0 v.no_values) []) (named (codes "e") ∷ [])
    ≡ ends (v.text (codes "e")) 7 []
unfolding evaluation eval within
reply_is_the_value = refl

-- 1 / 0 + 1 / 0 over two lines: the left side comes first
pub left_side_first : comes_to Thread 100
    (whole 1 ∷ whole 0 ∷ one (p.binary op.Divide 0 1) ∷ whole 1 ∷ whole 0 ∷ on 2 (p.binary op.Divide 3 4) ∷ one (p.binary op.Add 2 5) ∷ one (p.expression 6) ∷ [])
    (statements 0 (7 ∷ []) ∷ [])
    ≡ broken fault.Zero 1 (left 95 [])
unfolding evaluation eval within
left_side_first = refl

-- bp.ASSERT(true): its text is missing
pub assertion_without_text : comes_to Thread 100 (one (p.truth true) ∷ one (p.builtin form.Assert (0 ∷ [])) ∷ one (p.expression 1) ∷ []) (statements 0 (2 ∷ []) ∷ [])
    ≡ broken fault.Mistyped 1 (left 97 [])
unfolding evaluation eval within
assertion_without_text = refl

-- bp.enqueueExternalEvent(bp.Event("e", 1)); bp.log.info(bp.Event("e", [1, null]))
pub enqueued_and_logged : comes_to Handler 100
    (one (p.text (codes "e")) ∷ one (p.builtin form.Event (0 ∷ [])) ∷ one (p.builtin form.EnqueueExternalEvent (1 ∷ [])) ∷ one (p.expression 2)
    ∷ one (p.text (codes "e")) ∷ whole 1 ∷ one p.null ∷ one (p.list (5 ∷ 6 ∷ [])) ∷ one (p.builtin form.Event (4 ∷ 7 ∷ [])) ∷ one (p.builtin form.LogInfo (8 ∷ [])) ∷ one (p.expression 9) ∷ [])
    (statements 0 (3 ∷ 10 ∷ []) ∷ [])
    ≡ ends v.undefined 89 (enqueues (named (codes "e")) ∷ says (codes "[\"e\",[1,null]]") ∷ [])
unfolding evaluation eval within digits
enqueued_and_logged = refl

-- ---- branches

-- return [0 ? 1 : 2, "a" ? 3 : 4]: the other branch is not begun
pub conditionals : comes_to Thread 100
    (whole 0 ∷ whole 1 ∷ whole 2 ∷ one (p.conditional 0 1 2) ∷ one (p.text (codes "a")) ∷ whole 3 ∷ whole 4 ∷ one (p.conditional 4 5 6) ∷ one (p.list (3 ∷ 7 ∷ [])) ∷ one (p.return_of 8) ∷ [])
    (statements 0 (9 ∷ []) ∷ [])
    ≡ ends (v.list (v.value (v.whole (pos 2)) (v.value (v.whole (pos 3)) v.no_values))) 92 []
unfolding evaluation eval within
conditionals = refl

-- if (0) bp.log.info("a"); else bp.log.info("b"); if (1) bp.log.info("c"); else bp.log.info("d");
pub if_or_else : comes_to Thread 100
    (one (p.text (codes "a")) ∷ one (p.builtin form.LogInfo (0 ∷ [])) ∷ one (p.expression 1) ∷ one (p.text (codes "b")) ∷ one (p.builtin form.LogInfo (3 ∷ [])) ∷ one (p.expression 4)
    ∷ one (p.text (codes "c")) ∷ one (p.builtin form.LogInfo (6 ∷ [])) ∷ one (p.expression 7) ∷ one (p.text (codes "d")) ∷ one (p.builtin form.LogInfo (9 ∷ [])) ∷ one (p.expression 10)
    ∷ whole 0 ∷ one (p.if_else 12 2 5) ∷ whole 1 ∷ one (p.if_else 14 8 11) ∷ [])
    (statements 0 (13 ∷ 15 ∷ []) ∷ [])
    ≡ ends v.undefined 90 (says (codes "b") ∷ says (codes "c") ∷ [])
unfolding evaluation eval within
if_or_else = refl

-- for (const x of [1, 2, 3, 4]) { if (x === 1) continue; if (x === 3) break; bp.log.info(x) }
pub for_of_goes_on_and_breaks : comes_to Thread 100
    (whole 1 ∷ whole 2 ∷ whole 3 ∷ whole 4 ∷ one (p.list (0 ∷ 1 ∷ 2 ∷ 3 ∷ []))
    ∷ slot 0 ∷ whole 1 ∷ one (p.binary op.Same 5 6) ∷ one p.continue_of ∷ one (p.if_alone 7 8)
    ∷ slot 0 ∷ whole 3 ∷ one (p.binary op.Same 10 11) ∷ one p.break_of ∷ one (p.if_alone 12 13)
    ∷ slot 0 ∷ one (p.builtin form.LogInfo (15 ∷ [])) ∷ one (p.expression 16) ∷ one (p.block [] (9 ∷ 14 ∷ 17 ∷ [])) ∷ one (p.for_of 0 4 18) ∷ [])
    (statements 1 (19 ∷ []) ∷ [])
    ≡ ends v.undefined 66 (says (codes "2") ∷ [])
unfolding evaluation eval within digits
for_of_goes_on_and_breaks = refl

-- let i = 0; while (true) { i++; if (i === 2) continue; if (i === 4) break; bp.log.info(i) }
pub while_goes_on_and_breaks : comes_to Thread 100
    (whole 0 ∷ one (p.declaration Let (given 0 0 ∷ [])) ∷ one (p.truth true)
    ∷ one (p.update Increment After 0) ∷ one (p.expression 3) ∷ slot 0 ∷ whole 2 ∷ one (p.binary op.Same 5 6) ∷ one p.continue_of ∷ one (p.if_alone 7 8)
    ∷ slot 0 ∷ whole 4 ∷ one (p.binary op.Same 10 11) ∷ one p.break_of ∷ one (p.if_alone 12 13)
    ∷ slot 0 ∷ one (p.builtin form.LogInfo (15 ∷ [])) ∷ one (p.expression 16) ∷ one (p.block [] (4 ∷ 9 ∷ 14 ∷ 17 ∷ [])) ∷ one (p.while_of 2 18) ∷ [])
    (statements 1 (1 ∷ 19 ∷ []) ∷ [])
    ≡ ends v.undefined 45 (says (codes "1") ∷ says (codes "3") ∷ [])
unfolding evaluation eval within iterations_of digits
while_goes_on_and_breaks = refl

-- a `break` that stands in no loop ends its body with undefined
pub break_in_no_loop : comes_to Thread 100 (one p.break_of ∷ one p.return_nothing ∷ []) (statements 0 (0 ∷ 1 ∷ []) ∷ []) ≡ ends v.undefined 99 []
unfolding evaluation eval within
break_in_no_loop = refl

-- return [5 || 1 / 0, 5 && 6]
pub short_circuits : comes_to Thread 100
    (whole 5 ∷ whole 1 ∷ whole 0 ∷ one (p.binary op.Divide 1 2) ∷ one (p.binary op.Or 0 3) ∷ whole 6 ∷ one (p.binary op.And 0 5) ∷ one (p.list (4 ∷ 6 ∷ [])) ∷ one (p.return_of 7) ∷ [])
    (statements 0 (8 ∷ []) ∷ [])
    ≡ ends (v.list (v.value (v.whole (pos 5)) (v.value (v.whole (pos 6)) v.no_values))) 93 []
unfolding evaluation eval within
short_circuits = refl

-- for (;;) break: an absent test is true
pub absent_test : comes_to Thread 100 (one p.break_of ∷ one (p.for_three [] None None None 0) ∷ whole 7 ∷ one (p.return_of 2) ∷ []) (statements 0 (1 ∷ 3 ∷ []) ∷ []) ≡ ends (v.whole (pos 7)) 96 []
unfolding evaluation eval within iterations_of
absent_test = refl

-- [7].forEach((x, i, xs) => bp.log.info(xs)): the third argument is the list
pub for_each_gives_the_list : comes_to Thread 100
    (whole 7 ∷ one (p.list (0 ∷ [])) ∷ one (p.function 1) ∷ one (p.method 1 (codes "forEach") (2 ∷ [])) ∷ one (p.expression 3) ∷ slot 2 ∷ one (p.builtin form.LogInfo (5 ∷ [])) ∷ [])
    (statements 0 (4 ∷ []) ∷ body 3 3 (p.one_value 6) ∷ [])
    ≡ ends v.undefined 93 (says (codes "[7]") ∷ [])
unfolding evaluation eval within digits
for_each_gives_the_list = refl

-- ---- what is not declared yet in a second iteration

-- for (const k of [0, 1]) for (let i = k && i; 0;) ;   (the second i on line 2)
pub head_of_a_for : comes_to Thread 100
    (whole 0 ∷ whole 1 ∷ one (p.list (0 ∷ 1 ∷ [])) ∷ slot 0 ∷ on 2 (p.read (Slot 1)) ∷ one (p.binary op.And 3 4) ∷ one (p.declaration Let (given 1 5 ∷ []))
    ∷ whole 0 ∷ one p.empty ∷ one (p.for_three (1 ∷ []) (Some 6) (Some 7) None 8) ∷ one (p.for_of 0 2 9) ∷ [])
    (statements 2 (10 ∷ []) ∷ [])
    ≡ broken fault.Early 2 (left 86 [])
unfolding evaluation eval within iterations_of
head_of_a_for = refl

-- for (const k of [0, 1]) for (const x of k ? x : [5]) ;   (the second x on line 2)
pub list_of_a_for_of : comes_to Thread 100
    (whole 0 ∷ whole 1 ∷ one (p.list (0 ∷ 1 ∷ [])) ∷ slot 0 ∷ on 2 (p.read (Slot 1)) ∷ whole 5 ∷ one (p.list (5 ∷ [])) ∷ one (p.conditional 3 4 6)
    ∷ one p.empty ∷ one (p.for_of 1 7 8) ∷ one (p.for_of 0 2 9) ∷ [])
    (statements 2 (10 ∷ []) ∷ [])
    ≡ broken fault.Early 2 (left 86 [])
unfolding evaluation eval within
list_of_a_for_of = refl

-- ---- wrong arguments of forms

-- the nodes of a call of a form on line 2, with arguments among: 1, "n", a function, true
abbrev called_with : Builtin → List ℕ → Outcome
called_with f arguments =
    comes_to Thread 100 (whole 1 ∷ one (p.text (codes "n")) ∷ one (p.function 0) ∷ one (p.truth true) ∷ on 2 (p.builtin f arguments) ∷ one (p.expression 4) ∷ []) (statements 0 (5 ∷ []) ∷ [])

-- bp.registerBThread(1, f), bp.registerBThread("n", 1), bp.registerBThread("n")
pub registers_no_text : called_with form.RegisterBThread (0 ∷ 2 ∷ []) ≡ broken fault.Mistyped 2 (left 96 [])
unfolding evaluation eval within
registers_no_text = refl

pub registers_no_function : called_with form.RegisterBThread (1 ∷ 0 ∷ []) ≡ broken fault.Mistyped 2 (left 96 [])
unfolding evaluation eval within
registers_no_function = refl

pub registers_nothing : called_with form.RegisterBThread (1 ∷ []) ≡ broken fault.Mistyped 2 (left 97 [])
unfolding evaluation eval within
registers_nothing = refl

-- bp.enqueueExternalEvent("n"), bp.setInterruptHandler("n"), bp.ASSERT(true, 1), bp.log.info(f)
pub enqueues_no_event : called_with form.EnqueueExternalEvent (1 ∷ []) ≡ broken fault.Mistyped 2 (left 97 [])
unfolding evaluation eval within
enqueues_no_event = refl

pub handles_no_function : called_with form.SetInterruptHandler (1 ∷ []) ≡ broken fault.Mistyped 2 (left 97 [])
unfolding evaluation eval within
handles_no_function = refl

pub asserts_no_text : called_with form.Assert (3 ∷ 0 ∷ []) ≡ broken fault.Mistyped 2 (left 96 [])
unfolding evaluation eval within
asserts_no_text = refl

pub logs_a_function : called_with form.LogInfo (2 ∷ []) ≡ broken fault.Mistyped 2 (left 97 [])
unfolding evaluation eval within
logs_a_function = refl

-- bp.log.info(): a missing argument is undefined
pub logs_undefined : called_with form.LogInfo [] ≡ ends v.undefined 98 (says (codes "undefined") ∷ [])
unfolding evaluation eval within
logs_undefined = refl

-- bp.ASSERT(1, "n", 1): a truthy condition, and one argument too many
pub assertion_holds : called_with form.Assert (0 ∷ 1 ∷ 0 ∷ []) ≡ ends v.undefined 95 []
unfolding evaluation eval within
assertion_holds = refl

-- bp.registerBThread("n", f), bp.setInterruptHandler(f)
pub registers_a_thread : called_with form.RegisterBThread (1 ∷ 2 ∷ []) ≡ ends v.undefined 96 (registers (codes "n") (v.function 0 v.no_values) ∷ [])
unfolding evaluation eval within
registers_a_thread = refl

pub sets_a_handler : called_with form.SetInterruptHandler (2 ∷ []) ≡ ends v.undefined 97 (handles (v.function 0 v.no_values) ∷ [])
unfolding evaluation eval within
sets_a_handler = refl

-- Math.floor(1 / 0, bp.log.info("c")): the fault comes after the argument that is dropped
pub floor_after_its_arguments : comes_to Thread 100
    (whole 1 ∷ whole 0 ∷ one (p.text (codes "c")) ∷ one (p.builtin form.LogInfo (2 ∷ [])) ∷ on 2 (p.floor_divide 0 1 (3 ∷ [])) ∷ one (p.expression 4) ∷ []) (statements 0 (5 ∷ []) ∷ [])
    ≡ broken fault.Zero 2 (left 94 (says (codes "c") ∷ []))
unfolding evaluation eval within
floor_after_its_arguments = refl

-- while (true) return; return 7: a bare `return` ends the body with undefined, and not the loop alone
pub bare_return : comes_to Thread 100
    (one (p.truth true) ∷ one p.return_nothing ∷ one (p.while_of 0 1) ∷ whole 7 ∷ one (p.return_of 3) ∷ []) (statements 0 (2 ∷ 4 ∷ []) ∷ [])
    ≡ ends v.undefined 97 []
unfolding evaluation eval within iterations_of
bare_return = refl

-- let a = 5; then bp.registerBThread("n", () => a), or bp.setInterruptHandler(() => a): the function
-- keeps what it captured
abbrev captured_by : Builtin → List ℕ → Outcome
captured_by f arguments =
    comes_to Thread 100
    (whole 5 ∷ one (p.declaration Let (given 0 0 ∷ [])) ∷ one (p.text (codes "n")) ∷ one (p.function 1) ∷ one (p.builtin f arguments) ∷ one (p.expression 4) ∷ slot 0 ∷ [])
    (statements 1 (1 ∷ 5 ∷ []) ∷ record { parameters = 0; slots = 1; captures = 0 ∷ []; vars = []; content = p.one_value 6; line = 1 } ∷ [])

pub registered_with_captured : captured_by form.RegisterBThread (2 ∷ 3 ∷ []) ≡ ends v.undefined 94 (registers (codes "n") (v.function 1 (v.value (v.whole (pos 5)) v.no_values)) ∷ [])
unfolding evaluation eval within
registered_with_captured = refl

pub handler_with_captured : captured_by form.SetInterruptHandler (3 ∷ []) ≡ ends v.undefined 95 (handles (v.function 1 (v.value (v.whole (pos 5)) v.no_values)) ∷ [])
unfolding evaluation eval within
handler_with_captured = refl

-- let a = 5; [7].forEach(x => bp.log.info(x + a))
pub for_each_with_captured : comes_to Thread 100
    (whole 5 ∷ one (p.declaration Let (given 0 0 ∷ [])) ∷ whole 7 ∷ one (p.list (2 ∷ [])) ∷ one (p.function 1) ∷ one (p.method 3 (codes "forEach") (4 ∷ [])) ∷ one (p.expression 5)
    ∷ slot 0 ∷ slot 1 ∷ one (p.binary op.Add 7 8) ∷ one (p.builtin form.LogInfo (9 ∷ [])) ∷ [])
    (statements 1 (1 ∷ 6 ∷ []) ∷ record { parameters = 1; slots = 2; captures = 0 ∷ []; vars = []; content = p.one_value 10; line = 1 } ∷ [])
    ≡ ends v.undefined 89 (says (codes "12") ∷ [])
unfolding evaluation eval within digits
for_each_with_captured = refl

-- for (const k of [0, 1]) { k && x; let y = 1, x = 1 }: in the second iteration neither is declared yet (x
-- stands on line 2)
pub second_of_a_block : comes_to Thread 100
    (whole 0 ∷ whole 1 ∷ one (p.list (0 ∷ 1 ∷ [])) ∷ slot 0 ∷ on 2 (p.read (Slot 2)) ∷ one (p.binary op.And 3 4) ∷ one (p.expression 5)
    ∷ whole 1 ∷ one (p.declaration Let (given 1 7 ∷ given 2 7 ∷ [])) ∷ one (p.block (1 ∷ 2 ∷ []) (6 ∷ 8 ∷ [])) ∷ one (p.for_of 0 2 9) ∷ [])
    (statements 3 (10 ∷ []) ∷ [])
    ≡ broken fault.Early 2 (left 84 [])
unfolding evaluation eval within
second_of_a_block = refl

-- bp.Event(1), bp.EventSet("n", 1)
pub event_without_name : called_with form.Event (0 ∷ []) ≡ broken fault.Mistyped 2 (left 97 [])
unfolding evaluation eval within
event_without_name = refl

pub set_without_function : called_with form.EventSet (1 ∷ 0 ∷ []) ≡ broken fault.Mistyped 2 (left 96 [])
unfolding evaluation eval within
set_without_function = refl
