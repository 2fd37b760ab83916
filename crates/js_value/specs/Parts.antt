-- What a value of one kind holds, and the value under a key.
use Rattle.std.specs.Prelude.{ℕ, List, Option, Some, None, if◌then◌else◌}
use Rattle.std.specs.Str.{bytes_eq}
use Rattle.js_data.specs.Event.{PlainEvent}
use Rattle.js_value.specs.Value as v
use Rattle.js_value.specs.Value.{PlainValue, ValueList, ValueFields}

abbrev pub text_inside : PlainValue → Option (List ℕ)
text_inside (v.text s) = Some s
text_inside _ = None

abbrev pub list_in : PlainValue → Option ValueList
list_in (v.list vs) = Some vs
list_in _ = None

abbrev pub event_in : PlainValue → Option PlainEvent
event_in (v.event e) = Some e
event_in _ = None

-- the value under the key
abbrev pub field_at : ValueFields → List ℕ → Option PlainValue
field_at v.no_fields key = None
field_at (v.field k x fs) key = if bytes_eq k key then Some x else field_at fs key
