-- What the live b-threads state, where one of them states something else.
use Rattle.std.specs.Prelude.{ℕ, nat_lt, nat_eq, List, [], ◌∷◌, Option, option_map, if◌then◌else◌}
use Rattle.std.specs.List.{cons_option}
use Rattle.bp_run.specs.Bodies.{Statement}
use Rattle.bp_run.specs.Selecting.{Live}

-- the live b-thread of this number, where it states something
abbrev pub live_at : {Set : Type 0} → ℕ → Option (Statement Set) → Option (Live Set)
live_at n o = option_map (λ s. record { number = n; statement = s }) o

-- the b-thread of this number states this, or is not live; all others stay
abbrev pub placed : {Set : Type 0} → ℕ → Option (Statement Set) → List (Live Set) → List (Live Set)
placed n o [] = cons_option (live_at n o) []
placed n o (t ∷ ts) =
    if nat_lt n t.number then cons_option (live_at n o) (t ∷ ts)
    else if nat_eq n t.number then cons_option (live_at n o) ts
    else t ∷ placed n o ts
