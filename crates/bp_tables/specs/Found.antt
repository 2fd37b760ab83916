-- What is found in a table.
use Rattle.std.specs.Prelude.{ℕ, Bool, true, not, ◌&&◌, nat_eq, length, List, [], ◌∷◌, Option, Some, None, if◌then◌else◌}
use Rattle.std.specs.Str.{bytes_eq}
use Rattle.std.specs.List.{starts_with}

-- the value of the first entry with the key
abbrev pub find_in : {V : Type 0} → List (List ℕ × V) → List ℕ → Option V
find_in [] key = None
find_in (e ∷ es) key = if bytes_eq e.0 key then Some e.1 else find_in es key

-- how many bytes the first key has with which the bytes begin
abbrev pub front_in : {V : Type 0} → List (List ℕ × V) → List ℕ → Option ℕ
front_in [] bs = None
front_in (e ∷ es) bs = if starts_with nat_eq bs e.0 then Some (length e.0) else front_in es bs

-- no entry has the key
abbrev pub is_new : {V : Type 0} → List ℕ → List (List ℕ × V) → Bool
is_new key [] = true
is_new key (e ∷ es) = not (bytes_eq e.0 key) && is_new key es

-- no two entries have one key
abbrev pub have_distinct_keys : {V : Type 0} → List (List ℕ × V) → Bool
have_distinct_keys [] = true
have_distinct_keys (e ∷ es) = is_new e.0 es && have_distinct_keys es
