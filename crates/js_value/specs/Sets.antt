-- The set that a value stands for.
use Rattle.std.specs.Prelude.{Option, Some, None, option_map, option_and_then}
use Rattle.js_value.specs.Value as v
use Rattle.js_value.specs.Value.{PlainValue, PlainSet, ValueList, SetList}

-- the set of an event, a set itself, or the union of a list of such
abbrev mutual
  pub set_of : PlainValue → Option PlainSet
  set_of (v.event e) = Some (v.only e)
  set_of (v.set s) = Some s
  set_of (v.list vs) = option_map v.any (sets_of vs)
  set_of _ = None

  pub sets_of : ValueList → Option SetList
  sets_of v.no_values = Some v.no_sets
  sets_of (v.value x vs) = option_and_then (λ s. option_map (v.set_in s) (sets_of vs)) (set_of x)

-- a method of sets is called on an event or a set
abbrev pub called_on : PlainValue → Option PlainSet
called_on (v.event e) = Some (v.only e)
called_on (v.set s) = Some s
called_on _ = None
