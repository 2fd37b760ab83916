-- Who requests an event, and who blocks it.
use Rattle.std.specs.Prelude.{ℕ, Bool, true, false, List, [], Option, None, Result, Ok, Err, filter, map}
use Rattle.js_data.specs.Event.{PlainEvent}
use Rattle.bp_run.specs.Bodies.{SetFault}
use Rattle.bp_run.specs.Selecting.{Live, Has, Asked, Enabled, requests}

abbrev pub says_yes : Result Bool SetFault → Bool
says_yes (Ok b) = b
says_yes (Err f) = false

-- the numbers of the live b-threads whose block sets have e: of all of them, and not of the first
-- alone
abbrev pub blockers : {Set : Type 0} → Has Set → List (Live Set) → PlainEvent → List ℕ
blockers has ts e = map (λ t. t.number) (filter (λ t. says_yes (has t.statement.block e)) ts)

-- the numbers of the live b-threads that request e
abbrev pub requesters : {Set : Type 0} → List (Live Set) → PlainEvent → List ℕ
requesters ts e = map (λ t. t.number) (filter (requests e) ts)

abbrev pub nothing_in : List PlainEvent → Option ℕ → Bool
nothing_in [] None = true
nothing_in _ _ = false

-- nothing can be selected; where a set is at fault, that isn't so
abbrev pub is_nothing : Asked Enabled → Bool
is_nothing (Ok x) = nothing_in x.inner x.outer
is_nothing (Err f) = false
