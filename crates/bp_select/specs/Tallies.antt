-- How many free events each b-thread requests: events that nobody blocks.
use Rattle.std.specs.Prelude.{◌≡◌, ◌⊎◌, ℕ, nat_eq, Bool, true, false, List, [], ◌∷◌, Ok, length}
use Rattle.std.specs.List.{list_any}
use Rattle.js_data.specs.Event.{PlainEvent}
use Rattle.js_value.specs.Value.{PlainSet}
use Rattle.js_meaning.specs.State.{Ground}
use Rattle.bp_meaning.specs.Membership.{member}
use Rattle.bp_run.specs.Selecting.{Live, candidates, requests, unblocked}
use Rattle.bp_roll.specs.Rolls.{is_in}
use Rattle.bp_roll.specs.Counting.{count_at}
use Rattle.bp_known.specs.Known.{Sets}
use Rattle.bp_select.specs.Blocks.{AreOf}
use Rattle.bp_live.specs.Places.{AreInOrder}

-- how many free events by number, and whether all are counted but those of some numbers
pub record PlainTally : Type 0 where
  pub counts : List ℕ
  pub changed : List ℕ
  pub whole : Bool

-- nothing is counted
abbrev pub no_tally : PlainTally
no_tally = record { counts = []; changed = []; whole = false }

-- what holds of each
abbrev pub Each : (Live PlainSet → Type 0) → List (Live PlainSet) → Type 0
Each P [] = Unit {0}
Each P (t ∷ ts) = P t × Each P ts

-- whether some b-thread has this number
abbrev pub is_there : ℕ → List (Live PlainSet) → Bool
is_there n ts = list_any (λ t. nat_eq t.number n) ts

-- Under these block sets, whatever b-threads state them, these of its requested events are free, its
-- other ones are blocked, and no set is at fault about any of them.
pub record AreFreeOf (base : Ground) (budget : ℕ) (sets : Sets) (t : Live PlainSet)
    (free : List PlainEvent) : Type 0 where
  pub left : (ts : List (Live PlainSet)) → AreInOrder ts → AreOf ts sets →
      unblocked (member base budget) ts (candidates (t ∷ [])) ≡ Ok free

-- this many of its requested events are free
pub record HasFree (base : Ground) (budget : ℕ) (sets : Sets) (count : ℕ) (t : Live PlainSet)
    : Type 0 where
  pub free : List PlainEvent
  pub are : AreFreeOf base budget sets t free
  pub many : count ≡ length free

-- no event is requested by both, free or blocked
pub record AreApart (t u : Live PlainSet) : Type 0 where
  pub each : (e : PlainEvent) → requests e t ≡ true → requests e u ≡ false

-- this holds of the b-thread, unless its number is among the changed
abbrev pub Unless : List ℕ → Live PlainSet → Type 0 → Type 0
Unless changed t P = (is_in t.number changed ≡ true) ⊎ P

-- all but the changed are counted, and no two of them request the same event; a number that nobody
-- has counts 0
pub record AreTallied (base : Ground) (budget : ℕ) (sets : Sets) (ts : List (Live PlainSet))
    (changed counts : List ℕ) : Type 0 where
  pub free : Each (λ t. Unless changed t (HasFree base budget sets (count_at counts t.number) t)) ts
  pub alone : Each (λ t. Unless changed t
      (Each (λ u. Unless changed u ((t.number ≡ u.number) ⊎ AreApart t u)) ts)) ts
  pub absent : (n : ℕ) → (is_in n changed ≡ true) ⊎ ((is_there n ts ≡ true) ⊎ (count_at counts n ≡ 0))

-- the same, where that is known of them at all
abbrev pub Tallied : Ground → ℕ → Sets → List (Live PlainSet) → PlainTally → Type 0
Tallied base budget sets ts y = y.whole ≡ true → AreTallied base budget sets ts y.changed y.counts
