-- What a b-thread states at `bp.sync`, read from the two values that it gives.
use Rattle.std.specs.Prelude.{ℕ, ℤ, pos, Bool, ◌||◌, List, [], ◌∷◌, Option, Some, None, codes, if◌then◌else◌}
use Rattle.std.specs.Str.{bytes_eq}
use Rattle.std.specs.List.{list_all}
use Rattle.js_data.specs.Event.{PlainEvent}
use Rattle.js_value.specs.Value as v
use Rattle.js_value.specs.Value.{PlainValue, ValueList, ValueFields, PlainSet}
use Rattle.js_value.specs.Lists.{fields_in}
use Rattle.js_ops.specs.Members.{field_or_undefined}
use Rattle.js_value.specs.Sets.{set_of}
use Rattle.js_value.specs.Parts.{event_in}
use Rattle.bp_run.specs.Bodies.{Statement}

-- the keys of a statement
abbrev pub is_key : List ℕ → Bool
is_key key =
    bytes_eq key (codes "request") || bytes_eq key (codes "waitFor") || bytes_eq key (codes "block") ||
    bytes_eq key (codes "interrupt")

-- an event, if both are there
abbrev pub events_with : Option PlainEvent → Option (List PlainEvent) → Option (List PlainEvent)
events_with (Some e) (Some es) = Some (e ∷ es)
events_with _ _ = None

abbrev pub events_in : ValueList → Option (List PlainEvent)
events_in v.no_values = Some []
events_in (v.value x xs) = events_with (event_in x) (events_in xs)

-- what is requested: an event or a list of events; undefined is the empty list
abbrev pub requested : PlainValue → Option (List PlainEvent)
requested v.undefined = Some []
requested (v.event e) = Some (e ∷ [])
requested (v.list xs) = events_in xs
requested _ = None

-- an event, a set, or a list of such, nested or not; undefined is the empty list
abbrev pub set_stated : PlainValue → Option PlainSet
set_stated v.undefined = Some (v.any v.no_sets)
set_stated x = set_of x

-- a whole number, and 0 for undefined
abbrev pub priority_stated : PlainValue → Option ℤ
priority_stated v.undefined = Some (pos 0)
priority_stated (v.whole n) = Some n
priority_stated _ = None

abbrev pub statement_with : Option (List PlainEvent) → Option PlainSet → Option PlainSet →
    Option PlainSet → Option ℤ → Option (Statement PlainSet)
statement_with (Some request) (Some wait_for) (Some block) (Some interrupt) (Some priority) =
    Some (record {
      request = request;
      wait_for = wait_for;
      block = block;
      interrupt = interrupt;
      priority = priority;
    })
statement_with _ _ _ _ _ = None

abbrev pub statement_in : ValueFields → PlainValue → Option (Statement PlainSet)
statement_in fs priority =
    statement_with (requested (field_or_undefined fs (codes "request")))
    (set_stated (field_or_undefined fs (codes "waitFor")))
    (set_stated (field_or_undefined fs (codes "block")))
    (set_stated (field_or_undefined fs (codes "interrupt"))) (priority_stated priority)

-- fields with these keys alone; nothing where the two values are no statement
abbrev pub statement_of : PlainValue → PlainValue → Option (Statement PlainSet)
statement_of (v.fields fs) priority =
    if list_all (λ (f : List ℕ × PlainValue). is_key f.0) (fields_in fs) then statement_in fs priority
    else None
statement_of _ priority = None
