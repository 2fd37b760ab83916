-- Values in which no text is longer than a value may be, and no event heavier than an event may be.
use Rattle.std.proofs.Common.{ℕ, ◌≤◌, List, length, Ok, Err}
use Rattle.js_data.specs.Event.{PlainEvent, event_weight}
use Rattle.js_data.specs.declared.event.TheConstants.Event as event
use Rattle.js_value.specs.Value as v
use Rattle.js_value.specs.Value.{PlainValue, ValueList, ValueFields}
use Rattle.js_ops.specs.Made.{Answer}

-- one less than the greatest weight of a value
abbrev pub IsShortText : List ℕ → Type 0
IsShortText s = length s ≤ 65_535

abbrev pub IsLight : PlainEvent → Type 0
IsLight e = event_weight e ≤ event.MOST_WEIGHT

-- Sets give no text back, so of them nothing is said.
abbrev mutual
  pub IsShort : PlainValue → Type 0
  IsShort v.undefined = Unit {0}
  IsShort v.null = Unit {0}
  IsShort (v.truth b) = Unit {0}
  IsShort (v.whole n) = Unit {0}
  IsShort (v.text s) = IsShortText s
  IsShort (v.list vs) = AreShort vs
  IsShort (v.fields fs) = AreShortFields fs
  IsShort (v.event e) = IsLight e
  IsShort (v.set s) = Unit {0}
  IsShort (v.function c vs) = AreShort vs

  pub AreShort : ValueList → Type 0
  AreShort v.no_values = Unit {0}
  AreShort (v.value x vs) = IsShort x × AreShort vs

  pub AreShortFields : ValueFields → Type 0
  AreShortFields v.no_fields = Unit {0}
  AreShortFields (v.field k x fs) = IsShort x × AreShortFields fs

abbrev pub IsShortAnswer : Answer → Type 0
IsShortAnswer (Ok x) = IsShort x
IsShortAnswer (Err f) = Unit {0}
