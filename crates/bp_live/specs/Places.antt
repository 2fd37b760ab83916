-- Statements in the order of their numbers.
use Rattle.std.specs.Prelude.{ℕ, ◌<◌, List, [], ◌∷◌}
use Rattle.bp_run.specs.Selecting.{Live}

-- all have greater numbers
abbrev pub AreAbove : {Set : Type 0} → ℕ → List (Live Set) → Type 0
AreAbove n [] = Unit {0}
AreAbove n (t ∷ ts) = (n < t.number) × AreAbove n ts

-- the numbers rise
abbrev pub AreInOrder : {Set : Type 0} → List (Live Set) → Type 0
AreInOrder [] = Unit {0}
AreInOrder (t ∷ ts) = AreAbove t.number ts × AreInOrder ts
