-- Counts of ends, of two ranges of seeds as of one.
use Rattle.std.specs.Prelude.{ℕ, suc, ◌+◌, List, [], ◌∷◌, Option, Some, None, option_map, if◌then◌else◌}
use Rattle.std.specs.Str.{bytes_eq}
use Rattle.bp_explain.specs.Seeds.{Counted, count_all, count_more, ends_from}

-- where the kind stands
abbrev pub place_of : List ℕ → List Counted → Option ℕ
place_of kind [] = None
place_of kind (x ∷ xs) = if bytes_eq x.kind kind then Some 0 else option_map suc (place_of kind xs)

-- the counts of later seeds added to those of earlier ones
abbrev pub merged : List Counted → List Counted → List Counted
merged xs [] = xs
merged xs (e ∷ es) = merged (count_more e xs) es

-- how many ends were counted
abbrev pub total : List Counted → ℕ
total [] = 0
total (x ∷ xs) = x.count + total xs

-- the counts of this many seeds from one on
abbrev pub counts_from : (ℕ → Option (List ℕ)) → ℕ → ℕ → List Counted
counts_from kind n seed = count_all (ends_from kind n seed) []
