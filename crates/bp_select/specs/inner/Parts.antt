-- Some of the b-threads, in their order, where those that are left out don't count.
use Rattle.std.specs.Prelude.{◌≡◌, ◌⊎◌, Bool, true, false, List, [], ◌∷◌}
use Rattle.js_data.specs.Event.{PlainEvent}
use Rattle.js_value.specs.Value.{PlainSet}
use Rattle.bp_run.specs.Selecting.{Live}
use Rattle.bp_select.specs.EmptySets.{is_empty}

abbrev pub are_none : List PlainEvent → Bool
are_none [] = true
are_none (e ∷ es) = false

-- it requests nothing
abbrev pub asks_nothing : Live PlainSet → Bool
asks_nothing t = are_none t.statement.request

-- it plainly blocks nothing
abbrev pub blocks_nothing : Live PlainSet → Bool
blocks_nothing t = is_empty t.statement.block

-- those that are left out pass the test
abbrev pub IsPart : (Live PlainSet → Bool) → List (Live PlainSet) → List (Live PlainSet) → Type 0
IsPart p ss [] = ss ≡ []
IsPart p [] (t ∷ ts) = (p t ≡ true) × IsPart p [] ts
IsPart p (s ∷ ss) (t ∷ ts) =
    ((p t ≡ true) × IsPart p (s ∷ ss) ts) ⊎ ((s ≡ t) × IsPart p ss ts)
