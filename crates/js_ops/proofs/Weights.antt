-- What passes the limit of weight by its parts alone.
use Rattle.std.proofs.Common.{◌≡◌, ◌≤◌, List, [], ◌∷◌, length, Err, refl, arith}
use Rattle.std.proofs.lemmas.Bool.{lt-ltb}
use Rattle.js_data.specs.declared.fault.Fault.TheVariants as fault
use Rattle.js_value.specs.Value as v
use Rattle.js_value.specs.Value.{PlainValue, PlainSet, value_weight, value_list_weight, set_weight}
use Rattle.js_value.specs.Lists.{value_list_of}
use Rattle.js_ops.specs.Made.{made}

set_weighs : (s : PlainSet) → 1 ≤ set_weight s
set_weighs (v.only e) = omega arith
set_weighs (v.any ss) = omega arith
set_weighs v.all = omega arith
set_weighs v.nothing = omega arith
set_weighs (v.or a b) = omega arith
set_weighs (v.and a b) = omega arith
set_weighs (v.xor a b) = omega arith
set_weighs (v.negate a) = omega arith
set_weighs (v.predicate n c vs) = omega arith

value_weighs : (x : PlainValue) → 1 ≤ value_weight x
value_weighs v.undefined = omega arith
value_weighs v.null = omega arith
value_weighs (v.truth b) = omega arith
value_weighs (v.whole n) = omega arith
value_weighs (v.text s) = omega arith
value_weighs (v.list vs) = omega arith
value_weighs (v.fields fs) = omega arith
value_weighs (v.event e) = omega arith
value_weighs (v.set s) = set_weighs s
value_weighs (v.function c vs) = omega arith

list_weighs : (xs : List PlainValue) → length xs ≤ value_list_weight (value_list_of xs)
list_weighs [] = omega arith
list_weighs (x ∷ xs) = omega (arith, value_weighs x, list_weighs xs)

-- a list of this many values passes the limit
pub too_many : (xs : List PlainValue) → 65_536 ≤ length xs → made (v.list (value_list_of xs)) ≡ Err fault.Weight
too_many xs h = rw (lt-ltb 65_536 (value_weight (v.list (value_list_of xs))) (omega (arith, h, list_weighs xs))) refl
