-- Sets in which there is plainly no event.
use Rattle.std.specs.Prelude.{Bool, true, false}
use Rattle.js_value.specs.Value.{PlainSet, any, nothing, no_sets}

-- no event is in it, without a look at the event
abbrev pub is_empty : PlainSet → Bool
is_empty nothing = true
is_empty (any no_sets) = true
is_empty _ = false
