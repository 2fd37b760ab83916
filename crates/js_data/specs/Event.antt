-- What contracts see of an event.
use Rattle.std.specs.Prelude.{◌≡◌, Bool, true, false, ◌&&◌, ℕ, ◌+◌, ◌≤◌, List, Option, Some, None}
use Rattle.std.specs.Str.{bytes_eq, is_utf8}
use Rattle.js_data.specs.Data.{PlainData, data_weight, data_nesting, text_weight, IsSortedData, IsHeld, same_data}
use Rattle.js_data.specs.declared.event.TheConstants.Event.{MOST_WEIGHT, MOST_NESTING}

pub record PlainEvent : Type 0 where
  pub name : List ℕ
  pub extra : Option PlainData

abbrev pub extra_weight : Option PlainData → ℕ
extra_weight None = 0
extra_weight (Some d) = data_weight d

abbrev pub extra_nesting : Option PlainData → ℕ
extra_nesting None = 1
extra_nesting (Some d) = data_nesting d

abbrev pub IsSortedExtra : Option PlainData → Type 0
IsSortedExtra None = Unit {0}
IsSortedExtra (Some d) = IsSortedData d

-- one more than the name, as a text, and the data
abbrev pub event_weight : PlainEvent → ℕ
event_weight e = 1 + text_weight e.name + extra_weight e.extra

-- one more than the parts: the name, with nesting 1, and the data
abbrev pub event_nesting : PlainEvent → ℕ
event_nesting e = 1 + extra_nesting e.extra

abbrev pub IsHeldExtra : Option PlainData → Type 0
IsHeldExtra None = Unit {0}
IsHeldExtra (Some d) = IsHeld d

-- What each event meets. `utf8` and `held` say what the name and the data hold by their types: each
-- text is UTF-8, and each number in range.
pub record IsEvent (e : PlainEvent) : Type 0 where
  pub weight : event_weight e ≤ MOST_WEIGHT
  pub nesting : event_nesting e ≤ MOST_NESTING
  pub sorted : IsSortedExtra e.extra
  pub utf8 : is_utf8 e.name ≡ true
  pub held : IsHeldExtra e.extra

abbrev pub same_extra : Option PlainData → Option PlainData → Bool
same_extra None None = true
same_extra (Some d) (Some e) = same_data d e
same_extra _ _ = false

-- whether two events are equal: equal names, and both without data or with equal data
abbrev pub same_event : PlainEvent → PlainEvent → Bool
same_event e f = bytes_eq e.name f.name && same_extra e.extra f.extra
