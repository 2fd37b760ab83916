-- The forms of `bp` and `Math`, with their arguments.
use Rattle.std.specs.Prelude.{ℕ, cond, List, [], ◌∷◌, ◌++◌, length, slice_get, unwrap_or, option_map, Option, Some, None}
use Rattle.js_data.specs.Event.{PlainEvent}
use Rattle.js_data.specs.JsonText.{event_text, data_text}
use Rattle.js_data.specs.declared.fault.Fault.TheVariants as fault
use Rattle.js_value.specs.Value as v
use Rattle.js_value.specs.Value.{PlainValue, is_truthy, value_text}
use Rattle.js_value.specs.declared.op.Make.TheVariants as make
use Rattle.js_value.specs.DataValues.{value_data}
use Rattle.js_ops.specs.Making.{make_of}
use Rattle.js_program.specs.declared.builtin.Builtin.{Builtin}
use Rattle.js_program.specs.declared.builtin.Builtin.TheVariants as form
use Rattle.js_program.specs.Builtins.{has_effect_in}
use Rattle.js_meaning.specs.State.{Setting, Effect, says, enqueues, registers, handles, State, left_of, Outcome, violated, stopped, gives, leaves, breaks, answered}

-- an argument; a missing one is undefined, and one too many is dropped
abbrev pub argument : ℕ → List PlainValue → PlainValue
argument k args = unwrap_or (slice_get args k) v.undefined

abbrev pub does_to_run : Effect → State → Outcome
does_to_run x s = leaves (record s { effects = s.effects ++ x ∷ [] })

abbrev pub registers_thread : ℕ → PlainValue → PlainValue → State → Outcome
registers_thread line (v.text name) (v.function code captured) s =
    does_to_run (registers name (v.function code captured)) s
registers_thread line _ _ s = breaks fault.Mistyped line s

-- stops where no reply is left; a reply is the value, the effects so far are delivered, and the whole
-- budget may be spent again
abbrev pub asks : ℕ → ℕ → PlainValue → PlainValue → List PlainEvent → State → Outcome
asks budget line statement priority [] s = stopped statement priority line (left_of s)
asks budget line statement priority (e ∷ es) s =
    gives (v.event e) (record s { fuel = budget; replies = es; delivered = length s.effects })

abbrev pub asserted : ℕ → PlainValue → PlainValue → State → Outcome
asserted line condition (v.text text) s =
    cond (is_truthy condition) leaves (λ now. violated text (left_of now)) s
asserted line condition _ s = breaks fault.Mistyped line s

abbrev pub enqueues_event : ℕ → PlainValue → State → Outcome
enqueues_event line (v.event e) s = does_to_run (enqueues e) s
enqueues_event line _ s = breaks fault.Mistyped line s

abbrev pub sets_handler : ℕ → PlainValue → State → Outcome
sets_handler line (v.function code captured) s = does_to_run (handles (v.function code captured)) s
sets_handler line _ s = breaks fault.Mistyped line s

-- the text of a value in the log: of an event its event text, of lists and fields of data their compact JSON
abbrev pub log_text : PlainValue → Option (List ℕ)
log_text (v.event e) = Some (event_text e)
log_text (v.list xs) = option_map data_text (value_data (v.list xs))
log_text (v.fields fs) = option_map data_text (value_data (v.fields fs))
log_text x = value_text x

abbrev pub logs : ℕ → Option (List ℕ) → State → Outcome
logs line None s = breaks fault.Mistyped line s
logs line (Some text) s = does_to_run (says text) s

-- `Math.floor` of anything but a division
abbrev pub floors : ℕ → PlainValue → State → Outcome
floors line (v.whole n) s = gives (v.whole n) s
floors line _ s = breaks fault.Mistyped line s

abbrev pub takes_effect : ℕ → ℕ → Builtin → List PlainValue → State → Outcome
takes_effect budget line form.RegisterBThread args s =
    registers_thread line (argument 0 args) (argument 1 args) s
takes_effect budget line form.Sync args s =
    asks budget line (argument 0 args) (argument 1 args) s.replies s
takes_effect budget line form.Event args s = answered line (make_of make.Event args []) s
takes_effect budget line form.EventSet args s = answered line (make_of make.Set args []) s
takes_effect budget line form.All args s = gives (v.set v.all) s
takes_effect budget line form.Nothing args s = gives (v.set v.nothing) s
takes_effect budget line form.Assert args s = asserted line (argument 0 args) (argument 1 args) s
takes_effect budget line form.EnqueueExternalEvent args s = enqueues_event line (argument 0 args) s
takes_effect budget line form.SetInterruptHandler args s = sets_handler line (argument 0 args) s
takes_effect budget line form.LogInfo args s = logs line (log_text (argument 0 args)) s
takes_effect budget line form.Floor args s = floors line (argument 0 args) s

-- in a mode where the form has no effect it is the fault `mode`
abbrev pub applies_form : Setting → ℕ → Builtin → List PlainValue → State → Outcome
applies_form g line f args s =
    cond (has_effect_in g.mode f) (takes_effect g.budget line f args) (breaks fault.Mode line) s
