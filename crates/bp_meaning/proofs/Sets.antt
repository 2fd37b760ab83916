-- Membership computes.
use Rattle.std.proofs.Common.{◌≡◌, ℕ, true, false, List, [], ◌∷◌, Some, Ok, Err, refl}
use Rattle.std.specs.Prelude.{pos, codes}
use Rattle.js_data.specs.Data as d
use Rattle.js_data.specs.Event.{PlainEvent}
use Rattle.js_data.specs.declared.fault.Fault.TheVariants as fault
use Rattle.js_data.proofs.Shared.{named}
use Rattle.js_tree.specs.declared.tree.Operator.TheVariants as op
use Rattle.js_value.specs.Value as v
use Rattle.js_value.specs.Value.{PlainSet}
use Rattle.js_program.specs.declared.builtin.Builtin.TheVariants.{LogInfo}
use Rattle.js_program.specs.PlainProgram as p
use Rattle.js_program.specs.PlainProgram.{PlainBody}
use Rattle.js_meaning.specs.State.{Ground}
use Rattle.js_meaning.specs.Meaning.{within, eval}
use Rattle.js_meaning.specs.Bodies.{evaluation}
use Rattle.js_meaning.proofs.Small.{on, one, whole, slot, statements, of_functions}
use Rattle.bp_run.specs.Bodies.SetFault.{Broken, Spent, NotTruth}
use Rattle.bp_meaning.specs.Membership.{member, Membership}

-- a function of one parameter whose value is the one of this node, on this line
abbrev predicate : ℕ → ℕ → PlainBody
predicate line n = record { parameters = 1; slots = 1; captures = []; vars = []; content = p.one_value n; line = line }

-- the predicates: 0 is e => 1, on line 3; 1 is e => e.name === "y"; 2 is e => 1 / 0; 3 is
-- e => { while (true) {} }; 4 is e => e.name === c with a captured c; 5 is e => bp.log.info(e)
abbrev base : Ground
base =
    of_functions
    (whole 1
    ∷ slot 0 ∷ one (p.member 1 (codes "name")) ∷ one (p.text (codes "y")) ∷ one (p.binary op.Same 2 3)
    ∷ whole 1 ∷ whole 0 ∷ on 5 (p.binary op.Divide 5 6)
    ∷ one (p.truth true) ∷ one (p.block [] []) ∷ one (p.while_of 8 9)
    ∷ slot 1 ∷ one (p.binary op.Same 2 11) ∷ on 6 (p.builtin LogInfo (1 ∷ [])) ∷ [])
    (predicate 3 0 ∷ predicate 1 4 ∷ predicate 5 7 ∷ statements 0 (10 ∷ []) ∷ record { parameters = 1; slots = 2; captures = 0 ∷ []; vars = []; content = p.one_value 12; line = 1 } ∷ predicate 6 13 ∷ [])

abbrev asked : PlainSet → List ℕ → Membership
asked set name = member base 20 set (named name)

abbrev only : List ℕ → PlainSet
only name = v.only (named name)

abbrev fun : ℕ → PlainSet
fun code = v.predicate (codes "p") code v.no_values

-- the union of x and a predicate that answers 1: asking stops at the first yes
abbrev x_or_one : PlainSet
x_or_one = v.any (v.set_in (only (codes "x")) (v.set_in (fun 0) v.no_sets))

pub stops_at_yes : asked x_or_one (codes "x") ≡ Ok true
unfolding evaluation eval within
stops_at_yes = refl

pub one_is_no_truth : asked x_or_one (codes "y") ≡ Err (NotTruth 3)
unfolding evaluation eval within
one_is_no_truth = refl

pub predicate_answers : asked (fun 1) (codes "y") ≡ Ok true
unfolding evaluation eval within
predicate_answers = refl

pub predicate_breaks : asked (v.negate (fun 2)) (codes "y") ≡ Err (Broken fault.Zero 5)
unfolding evaluation eval within
predicate_breaks = refl

pub predicate_is_spent : asked (fun 3) (codes "y") ≡ Err Spent
unfolding evaluation eval within
predicate_is_spent = refl

-- `or` stops at yes and `and` at no, but `xor` asks both
pub or_stops : asked (v.or v.all (fun 2)) (codes "x") ≡ Ok true
unfolding evaluation eval within
or_stops = refl

pub and_stops : asked (v.and v.nothing (fun 2)) (codes "x") ≡ Ok false
unfolding evaluation eval within
and_stops = refl

pub xor_asks_both : asked (v.xor v.all (fun 2)) (codes "x") ≡ Err (Broken fault.Zero 5)
unfolding evaluation eval within
xor_asks_both = refl

pub xor_of_both : asked (v.xor v.all (fun 1)) (codes "y") ≡ Ok false
unfolding evaluation eval within
xor_of_both = refl

pub first_fault_answers : asked (v.xor (fun 0) (fun 2)) (codes "x") ≡ Err (NotTruth 3)
unfolding evaluation eval within
first_fault_answers = refl

-- `or` asks on at a no, `and` at a yes
pub or_asks_on : asked (v.or v.nothing (only (codes "y"))) (codes "y") ≡ Ok true
unfolding evaluation eval within
or_asks_on = refl

pub or_of_none : asked (v.or v.nothing (only (codes "x"))) (codes "y") ≡ Ok false
unfolding evaluation eval within
or_of_none = refl

pub or_meets_a_fault : asked (v.or v.nothing (fun 2)) (codes "y") ≡ Err (Broken fault.Zero 5)
unfolding evaluation eval within
or_meets_a_fault = refl

pub and_asks_on : asked (v.and v.all (only (codes "x"))) (codes "y") ≡ Ok false
unfolding evaluation eval within
and_asks_on = refl

pub and_of_both : asked (v.and v.all (only (codes "y"))) (codes "y") ≡ Ok true
unfolding evaluation eval within
and_of_both = refl

pub xor_of_one : asked (v.xor v.nothing (fun 1)) (codes "y") ≡ Ok true
unfolding evaluation eval within
xor_of_one = refl

pub xor_of_none : asked (v.xor v.nothing (fun 1)) (codes "x") ≡ Ok false
unfolding evaluation eval within
xor_of_none = refl

pub xor_of_the_first : asked (v.xor v.all (fun 1)) (codes "x") ≡ Ok true
unfolding evaluation eval within
xor_of_the_first = refl

-- the opposite of each answer
pub opposite_of_yes : asked (v.negate (fun 1)) (codes "y") ≡ Ok false
unfolding evaluation eval within
opposite_of_yes = refl

pub opposite_of_no : asked (v.negate (fun 1)) (codes "x") ≡ Ok true
unfolding evaluation eval within
opposite_of_no = refl

-- events with data are equal where the data are
abbrev with_data : ℕ → PlainEvent
with_data n = record { name = codes "x"; extra = Some (d.whole (pos n)) }

pub equal_data : member base 20 (v.only (with_data 1)) (with_data 1) ≡ Ok true
equal_data = refl

pub other_data : member base 20 (v.only (with_data 1)) (with_data 2) ≡ Ok false
other_data = refl

pub missing_data : member base 20 (v.only (with_data 1)) (named (codes "x")) ≡ Ok false
missing_data = refl

-- each predicate has the whole budget: two of them begin eight nodes, and each alone four
pub each_has_the_budget : member base 4 (v.and (fun 1) (fun 1)) (named (codes "y")) ≡ Ok true
unfolding evaluation eval within
each_has_the_budget = refl

pub four_are_spent : member base 3 (fun 1) (named (codes "y")) ≡ Err Spent
unfolding evaluation eval within
four_are_spent = refl

pub predicate_with_captured : asked (v.predicate (codes "p") 4 (v.value (v.text (codes "z")) v.no_values)) (codes "z") ≡ Ok true
unfolding evaluation eval within
predicate_with_captured = refl

-- a predicate has no effects
pub predicate_logs : asked (fun 5) (codes "y") ≡ Err (Broken fault.Mode 6)
unfolding evaluation eval within
predicate_logs = refl

-- a fault of the first one is the answer, whatever the second one has
pub first_of_or_breaks : asked (v.or (fun 2) v.all) (codes "x") ≡ Err (Broken fault.Zero 5)
unfolding evaluation eval within
first_of_or_breaks = refl

pub first_of_and_breaks : asked (v.and (fun 2) v.nothing) (codes "x") ≡ Err (Broken fault.Zero 5)
unfolding evaluation eval within
first_of_and_breaks = refl

pub first_of_a_list_breaks : asked (v.any (v.set_in (fun 2) (v.set_in v.all v.no_sets))) (codes "x") ≡ Err (Broken fault.Zero 5)
unfolding evaluation eval within
first_of_a_list_breaks = refl

-- e => 1 / 0, with the function on line 3 and the division on line 8
pub fault_in_a_predicate :
    member (of_functions (whole 1 ∷ whole 0 ∷ on 8 (p.binary op.Divide 0 1) ∷ []) (predicate 3 2 ∷ [])) 20 (fun 0) (named (codes "x")) ≡ Err (Broken fault.Zero 8)
unfolding evaluation eval within
fault_in_a_predicate = refl
