-- What a row holds.
use Rattle.std.specs.Prelude.{ℕ, nat_le, Bool, true, ◌&&◌, List, [], ◌∷◌, map, take}
use Rattle.bp_tables.specs.declared.row.Row.{Row}

-- the key of a row: its first `size` bytes
abbrev pub key_of : {V : _} → Row V → List ℕ
key_of r = take r.size r.key

-- a key and its value
abbrev pub entry : {V : _} → Row V → List ℕ × V
entry r = (key_of r, r.value)

abbrev pub entries : {V : _} → List (Row V) → List (List ℕ × V)
entries rows = map entry rows

-- the key fits the row
abbrev pub is_within : {V : _} → Row V → Bool
is_within r = nat_le r.size 24

abbrev pub are_within : {V : _} → List (Row V) → Bool
are_within [] = true
are_within (r ∷ rows) = is_within r && are_within rows
