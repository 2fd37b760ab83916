-- Under which keys b-threads are noted, so that whoever an event touches is found by the event.
use Rattle.std.specs.Prelude.{◌≡◌, ◌⊎◌, ℕ, Bool, false, true, List, Ok, None}
use Rattle.js_data.specs.Event.{PlainEvent}
use Rattle.js_value.specs.Value.{PlainSet}
use Rattle.js_meaning.specs.State.{Ground}
use Rattle.bp_meaning.specs.Membership.{member}
use Rattle.bp_run.specs.Selecting.{Live, requests}
use Rattle.bp_run.specs.Choosing.{touched}
use Rattle.bp_roll.specs.Rolls.{PlainRoll, is_in, is_noted}
use Rattle.bp_select.specs.declared.heeds.Heeds as heeds
use Rattle.bp_known.specs.Known.{Sets}
use Rattle.bp_select.specs.Tallies.{Each}
use Rattle.bp_select.specs.inner.BlockSets.{AreOfUnchanged}
use Rattle.bp_roll.specs.Feeding.{event_key}
use Rattle.bp_select.specs.inner.Parts.{asks_nothing, blocks_nothing}

-- the key of those that any event may touch
abbrev pub any_key : ℕ
any_key = 0

-- the event, which it does not request, does nothing to the b-thread, whatever the ground and the
-- budget
pub record Stays (e : PlainEvent) (t : Live PlainSet) : Type 0 where
  pub unasked : requests e t ≡ false
  pub each : (base : Ground) (budget : ℕ) → touched (member base budget) e t ≡ Ok None

-- an event whose key is not among these is not in the set, and does not put it at fault
pub record HaveKeysOf (s : PlainSet) (ks : List ℕ) : Type 0 where
  pub each : (base : Ground) (budget : ℕ) (e : PlainEvent) →
      (is_in (event_key e) ks ≡ true) ⊎ (member base budget s e ≡ Ok false)

-- the key of those that request something
abbrev pub asks_key : ℕ
asks_key = 1

-- the key of those that block something
abbrev pub blocks_key : ℕ
blocks_key = 2

-- at each event that touches the b-thread this holds of the event's key, or of the one for any event
pub record TouchedAt (at : ℕ → Bool) (t : Live PlainSet) : Type 0 where
  pub each : (e : PlainEvent) →
      (at any_key ≡ true) ⊎ ((at (event_key e) ≡ true) ⊎ Stays e t)

-- this holds of all keys of the b-thread
pub record HeedsAt (at : ℕ → Bool) (t : Live PlainSet) : Type 0 where
  pub touched : TouchedAt at t
  pub asks : (at asks_key ≡ true) ⊎ (asks_nothing t ≡ true)
  pub blocks : (at blocks_key ≡ true) ⊎ (blocks_nothing t ≡ true)

-- it is noted at the keys of all events that touch it
abbrev pub IsNoted : PlainRoll → Live PlainSet → Type 0
IsNoted r t = HeedsAt (λ k. is_noted r k t.number) t

-- each is noted, or is among the changed
abbrev pub AreNoted : List (Live PlainSet) → PlainRoll → List ℕ → Type 0
AreNoted ts r changed = Each (λ t. (is_in t.number changed ≡ true) ⊎ IsNoted r t) ts

-- the same, where that is known of them at all
abbrev pub WhereWhole : Bool → List (Live PlainSet) → PlainRoll → List ℕ → Type 0
WhereWhole whole ts r changed = whole ≡ true → AreNoted ts r changed

-- what is kept of the b-threads is so: which block sets they state, and whom an event may touch
pub record AreKept (ts : List (Live PlainSet)) (sets : Sets) (changed : List ℕ) (h : heeds.Heeds)
    : Type 0 where
  pub blocking : AreOfUnchanged ts sets changed
  pub heeding : WhereWhole h.whole ts h.roll h.changed
