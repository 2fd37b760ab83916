-- When two sets are made alike.
use Rattle.std.specs.Prelude.{nat_eq, Bool, true, false, ◌&&◌, Option, Some, None}
use Rattle.std.specs.Ordering.{int_eq}
use Rattle.std.specs.Bool.{beq}
use Rattle.std.specs.Str.{bytes_eq}
use Rattle.js_data.specs.Event.{same_event}
use Rattle.js_value.specs.Value.{PlainValue, undefined, null, truth, whole, text, event, ValueList, no_values, value, PlainSet, only, any, all, nothing, or, and, xor, negate, predicate, SetList, no_sets, set_in}

-- equal values that have no parts, but for an event's data
abbrev pub same_leaf : PlainValue → PlainValue → Bool
same_leaf undefined undefined = true
same_leaf null null = true
same_leaf (truth a) (truth b) = beq a b
same_leaf (whole m) (whole n) = int_eq m n
same_leaf (text s) (text t) = bytes_eq s t
same_leaf (event e) (event f) = same_event e f
same_leaf _ _ = false

abbrev pub same_leaves : ValueList → ValueList → Bool
same_leaves no_values no_values = true
same_leaves (value v vs) (value w ws) = same_leaf v w && same_leaves vs ws
same_leaves _ _ = false

-- of the same events, and of predicates of the same function that captured equal leaves
abbrev mutual
  pub same_set : PlainSet → PlainSet → Bool
  same_set (only e) (only f) = same_event e f
  same_set (any ss) (any ts) = same_sets ss ts
  same_set all all = true
  same_set nothing nothing = true
  same_set (or s t) (or u v) = same_set s u && same_set t v
  same_set (and s t) (and u v) = same_set s u && same_set t v
  same_set (xor s t) (xor u v) = same_set s u && same_set t v
  same_set (negate s) (negate t) = same_set s t
  same_set (predicate n c vs) (predicate m d ws) = nat_eq c d && bytes_eq n m && same_leaves vs ws
  same_set _ _ = false

  pub same_sets : SetList → SetList → Bool
  same_sets no_sets no_sets = true
  same_sets (set_in s ss) (set_in t ts) = same_set s t && same_sets ss ts
  same_sets _ _ = false

-- neither is there, or both are and are made alike
abbrev pub same_block : Option PlainSet → Option PlainSet → Bool
same_block None None = true
same_block (Some s) (Some t) = same_set s t
same_block _ _ = false
