-- Summaries that never go back.
use Rattle.std.specs.Prelude.{List, [], ◌∷◌, Bool, true, not, ◌&&◌, nat_lt, Option, None, Some}
use Rattle.bp_view.specs.declared.summary.Summary.{Summary}

-- the second has more records, and the first is not over
abbrev pub is_before : Summary → Summary → Bool
is_before s t = nat_lt s.records t.records && not s.over

-- the numbers of records strictly grow, and only the last may be over
abbrev pub grows : List Summary → Bool
grows [] = true
grows (s ∷ []) = true
grows (s ∷ (t ∷ ts)) = is_before s t && grows (t ∷ ts)

abbrev pub last_of : List Summary → Option Summary
last_of [] = None
last_of (s ∷ []) = Some s
last_of (s ∷ (t ∷ ts)) = last_of (t ∷ ts)
