-- Those of some b-threads that are live, where others left gaps.
use Rattle.std.specs.Prelude.{◌≡◌, ℕ, ◌+◌, Bool, false, not, Option, None, Some, List, [], ◌∷◌, map, filter, if◌then◌else◌}
use Rattle.js_value.specs.Value.{PlainSet}
use Rattle.bp_run.specs.Selecting.{Live}
use Rattle.bp_live.specs.declared.stated.Stated.{Stated}
use Rattle.bp_live.specs.Lives.{live_of}
use Rattle.bp_live.specs.Places.{AreInOrder}

-- those that are live, and how many are not
pub record PlainList : Type 0 where
  pub live : List (Live PlainSet)
  pub gone : ℕ

abbrev pub live_in : List Stated → List (Live PlainSet)
live_in xs = map live_of (filter (λ s. s.here) xs)

-- 1 where it is not live
abbrev pub gap : Stated → ℕ
gap s = if s.here then 0 else 1

abbrev pub gone_in : List Stated → ℕ
gone_in [] = 0
gone_in (x ∷ xs) = gap x + gone_in xs

-- whether one is there, and not live
abbrev pub is_gap : Option Stated → Bool
is_gap None = false
is_gap (Some s) = not s.here

-- their numbers rise, and this many are not live
pub record HasGaps (xs : List Stated) (count : ℕ) : Type 0 where
  pub order : AreInOrder (map live_of xs)
  pub gone : count ≡ gone_in xs
