-- Whether a set has an event.
use Rattle.std.specs.Prelude.{ℕ, Bool, true, false, not, [], ◌∷◌, Result, Ok, Err}
use Rattle.js_data.specs.Event.{PlainEvent, same_event}
use Rattle.js_value.specs.Value as v
use Rattle.js_value.specs.Value.{PlainSet, SetList, ValueList}
use Rattle.js_program.specs.declared.builtin.Mode.TheVariants.{Predicate}
use Rattle.js_meaning.specs.State.{Ground, normal, Outcome, went, broken, spent}
use Rattle.js_meaning.specs.Calls.{body_of}
use Rattle.js_meaning.specs.Bodies.{function, evaluation}
use Rattle.bp_run.specs.Bodies.{SetFault}
use Rattle.bp_run.specs.Bodies.SetFault.{Broken, Spent, NotTruth}

-- yes, no, or why it can't be told
abbrev pub Membership : Type 0
Membership = Result Bool SetFault

-- the answer of a predicate, whose function begins on this line: it must be a truth value
abbrev pub truth_answered : ℕ → Outcome → Membership
truth_answered line (went (normal (v.truth b)) s) = Ok b
truth_answered line (broken f at left) = Err (Broken f at)
truth_answered line (spent left) = Err Spent
truth_answered line _ = Err (NotTruth line)

-- a predicate is called with the event, and with the whole budget
abbrev pub asks_predicate : Ground → ℕ → ℕ → ValueList → PlainEvent → Membership
asks_predicate base budget code captured e =
    truth_answered (body_of base.program code).line
    (evaluation base budget (function Predicate (v.function code captured) (v.event e ∷ [])) [])

abbrev pub opposite : Membership → Membership
opposite (Ok b) = Ok (not b)
opposite (Err f) = Err f

-- yes where one says yes and the other no; of two faults the first
abbrev pub exactly_one : Membership → Membership → Membership
exactly_one (Err f) r = Err f
exactly_one (Ok a) (Err f) = Err f
exactly_one (Ok true) (Ok b) = Ok (not b)
exactly_one (Ok false) (Ok b) = Ok b

-- From left to right: `any` and `or` ask up to the first yes, `and` up to the first no, and `xor` asks
-- both. A fault is the answer.
abbrev mutual
  pub member : Ground → ℕ → PlainSet → PlainEvent → Membership
  member base budget (v.only f) e = Ok (same_event f e)
  member base budget (v.any sets) e = member_of_any base budget sets e
  member base budget v.all e = Ok true
  member base budget v.nothing e = Ok false
  member base budget (v.or s t) e =
      elim (member base budget s e) [
        | Err f ↦ Err f
        | Ok b ↦ elim b [ true ↦ Ok true | false ↦ member base budget t e ]
      ]
  member base budget (v.and s t) e =
      elim (member base budget s e) [
        | Err f ↦ Err f
        | Ok b ↦ elim b [ true ↦ member base budget t e | false ↦ Ok false ]
      ]
  member base budget (v.xor s t) e = exactly_one (member base budget s e) (member base budget t e)
  member base budget (v.negate s) e = opposite (member base budget s e)
  member base budget (v.predicate name code captured) e = asks_predicate base budget code captured e

  pub member_of_any : Ground → ℕ → SetList → PlainEvent → Membership
  member_of_any base budget v.no_sets e = Ok false
  member_of_any base budget (v.set_in s ss) e =
      elim (member base budget s e) [
        | Err f ↦ Err f
        | Ok b ↦ elim b [ true ↦ Ok true | false ↦ member_of_any base budget ss e ]
      ]
