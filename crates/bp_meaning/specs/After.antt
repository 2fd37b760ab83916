-- Where a body stands after the events that it received.
use Rattle.std.specs.Prelude.{ℕ, List, [], ◌∷◌, map, fold, Option, Some, None, option_map}
use Rattle.js_data.specs.Event.{PlainEvent}
use Rattle.js_data.specs.declared.fault.Fault.TheVariants as fault
use Rattle.js_value.specs.Value as v
use Rattle.js_value.specs.Value.{PlainValue, PlainSet}
use Rattle.js_program.specs.declared.builtin.Mode.TheVariants.{Thread, Handler}
use Rattle.js_meaning.specs.State as js
use Rattle.js_meaning.specs.State.{Ground}
use Rattle.js_meaning.specs.Bodies.{Origin, function, evaluation}
use Rattle.bp_run.specs.Bodies as run
use Rattle.bp_run.specs.Bodies.{Statement, Part}
use Rattle.bp_meaning.specs.Statements.{statement_of}

-- what the run sees of an effect: a b-thread runs the function with which it was registered
abbrev pub effect_of : js.Effect → run.Effect Origin
effect_of (js.says text) = run.Effect.Says text
effect_of (js.enqueues e) = run.Effect.Enqueue e
effect_of (js.registers name f) = run.Effect.Register name (function Thread f [])
effect_of (js.handles f) = run.Effect.Handler

-- values that are no statement are the fault `statement`, on the line of the `bp.sync`
abbrev pub stopped_with : Option (Statement PlainSet) → ℕ → run.Outcome PlainSet
stopped_with (Some statement) line = run.Outcome.Stopped statement
stopped_with None line = run.Outcome.Broken fault.Statement line

abbrev pub outcome_of : js.Outcome → run.Outcome PlainSet
outcome_of (js.went c s) = run.Outcome.Ended
outcome_of (js.broken f line left) = run.Outcome.Broken f line
outcome_of (js.violated text left) = run.Outcome.Violated text
outcome_of (js.spent left) = run.Outcome.Spent
outcome_of (js.stopped statement priority line left) =
    stopped_with (statement_of statement priority) line

abbrev pub part_of : js.Outcome → Part Origin PlainSet
part_of o = record { effects = map effect_of (js.effects_since o); outcome = outcome_of o }

-- the outcome of the whole body from its start, with the effects that came after the last reply
abbrev pub after : Ground → ℕ → Origin → List PlainEvent → Part Origin PlainSet
after base budget o replies = part_of (evaluation base budget o replies)

-- ---- the handler

abbrev pub handler_after : Option PlainValue → js.Effect → Option PlainValue
handler_after earlier (js.handles f) = Some f
handler_after earlier _ = earlier

-- the handler that was set last, over all replies
abbrev pub handler : Ground → ℕ → Origin → List PlainEvent → Option PlainValue
handler base budget o replies =
    fold handler_after None (js.effects_of (evaluation base budget o replies))

-- the run of the handler at the event that interrupted the body
abbrev pub handling : Ground → ℕ → Origin → List PlainEvent → PlainEvent → Option Origin
handling base budget o replies e =
    option_map (λ f. function Handler f (v.event e ∷ [])) (handler base budget o replies)
