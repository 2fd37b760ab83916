-- Selection in the field's words: requested by some or waiting in the queue, and blocked by none.
use Rattle.std.specs.Prelude.{◌≡◌, ℕ, true, false, List, Option, Some, None, Ok, slice_get}
use Rattle.js_data.specs.Event.{PlainEvent}
use Rattle.bp_run.specs.Selecting.{Live, Has, blocked, requested}
use Rattle.bp_run.specs.Choosing.{Choice}

-- where an event stands: some b-thread requests it, or it waits at this place of the queue
abbrev pub Stands : {Set : Type 0} → List (Live Set) → List PlainEvent → PlainEvent → Option ℕ → Type 0
Stands ts queue e None = requested ts e ≡ true
Stands ts queue e (Some place) = slice_get queue place ≡ Some e

pub record IsChosen {Set : Type 0} (has : Has Set) (ts : List (Live Set)) (queue : List PlainEvent)
    (ch : Choice) : Type 0 where
  pub stands : Stands ts queue ch.event ch.place
  pub free : blocked has ts ch.event ≡ Ok false

-- every event that stands somewhere is blocked
abbrev pub AllBlocked : {Set : Type 0} → Has Set → List (Live Set) → List PlainEvent → Type 0
AllBlocked has ts queue =
    (e : PlainEvent) (place : Option ℕ) → Stands ts queue e place → blocked has ts e ≡ Ok true
