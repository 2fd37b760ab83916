-- What a watcher writes.
use Rattle.std.specs.Prelude.{◌≡◌, ℕ, Bool, true, false, List, [], ◌∷◌, ◌++◌, Option, Some, All, Contains}
use Rattle.std.specs.List.{list_any}
use Rattle.bp_base.specs.Pieces.{Appends, AppendsFront}
use Rattle.bp_view.specs.declared.summary.Summary.{Summary}
use Rattle.bp_view.specs.Growing.{grows, last_of}
use Rattle.bp_view.specs.Lines.{summary_lines}
use Rattle.bp_view.specs.declared.watching.Watched.{Watched}
use Rattle.bp_view.specs.declared.watching.Watched.TheVariants.{All as Whole, Write, Memory, Halted}

-- After the line of the first summary the lines of these were written: each was seen, they never go back,
-- and one of them is over or none.
pub record AreWritten (first : Summary) (seen : List Summary) (over : Bool)
    (before after : Option (List ℕ)) : Type 0 where
  pub lines : List Summary
  pub each : All (Contains seen) lines
  pub grow : grows (first ∷ lines) ≡ true
  pub ended : list_any (λ s. s.over) lines ≡ over
  pub written : Appends before (summary_lines lines) after

-- and the last line is that of what was seen last
pub record IsWatched (first : Summary) (seen : List Summary) (over : Bool)
    (before after : Option (List ℕ)) : Type 0 where
  pub these : AreWritten first seen over before after
  pub last : last_of (first ∷ these.lines) ≡ last_of seen

-- and the line of what was seen last is not there, though it could follow
pub record IsBehind (first : Summary) (seen : List Summary) (before after : Option (List ℕ)) : Type 0 where
  pub these : AreWritten first seen false before after
  pub last : Summary
  pub is_last : last_of seen ≡ Some last
  pub can_follow : grows (first ∷ (these.lines ++ last ∷ [])) ≡ true

-- a front of such lines was written
pub record IsPartWatched (first : Summary) (seen : List Summary) (before after : Option (List ℕ))
    : Type 0 where
  pub lines : List Summary
  pub each : All (Contains seen) lines
  pub grow : grows (first ∷ lines) ≡ true
  pub written : AppendsFront before (summary_lines lines) after

-- what was written where watching ended so
abbrev pub EndsWatching : Summary → List Summary → Option (List ℕ) → Option (List ℕ) → Watched →
    Type 0
EndsWatching first seen before after Whole = IsWatched first seen true before after
EndsWatching first seen before after Write = IsPartWatched first seen before after
EndsWatching first seen before after Memory = IsBehind first seen before after
EndsWatching first seen before after Halted = IsWatched first seen false before after

-- all of what was seen is viewed: the last line is that of the last of it
abbrev pub IsViewed : Summary → List Summary → Option (List ℕ) → Option (List ℕ) → Type 0
IsViewed first seen before after = (over : Bool) × IsWatched first seen over before after
