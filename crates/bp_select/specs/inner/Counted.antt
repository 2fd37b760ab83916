-- What contracts see of a tally; the free events of one b-thread by themselves, and those of all.
use Rattle.std.specs.Prelude.{◌≡◌, ◌⊎◌, ◌+◌, ℕ, Bool, true, List, [], None, Ok, Err, if◌then◌else◌}
use Rattle.js_data.specs.Event.{PlainEvent}
use Rattle.js_value.specs.Value.{PlainSet}
use Rattle.js_meaning.specs.State.{Ground}
use Rattle.bp_run.specs.Selecting.{Asked, Has, Live, candidates, unblocked}
use Rattle.bp_run.specs.Choosing.{Choice}
use Rattle.bp_known.specs.Known.{Sets}
use Rattle.bp_select.specs.Tallies.{AreApart, Each, HasFree, PlainTally, is_there}
use Rattle.bp_select.specs.declared.tally.Tally as tally

abbrev pub plain_tally : tally.Tally → PlainTally
plain_tally y = record { counts = y.counts; changed = y.changed; whole = y.whole }

-- nobody else requests an event that the b-thread requests, free or blocked
abbrev pub IsAlone : List (Live PlainSet) → Live PlainSet → Type 0
IsAlone ts t = Each (λ u. (t.number ≡ u.number) ⊎ AreApart t u) ts

-- the b-thread of this number requests this many free events, and nobody else requests an event that
-- it requests, free or blocked; where nobody has this number, it is 0
pub record IsCounted (base : Ground) (budget : ℕ) (sets : Sets) (ts : List (Live PlainSet))
    (n count : ℕ) : Type 0 where
  pub free : Each (λ t. t.number ≡ n → HasFree base budget sets count t) ts
  pub alone : Each (λ t. t.number ≡ n → IsAlone ts t) ts
  pub absent : (is_there n ts ≡ true) ⊎ (count ≡ 0)

-- the events, and none where a set is at fault
abbrev pub or_none : Asked (List PlainEvent) → List PlainEvent
or_none (Ok es) = es
or_none (Err f) = []

-- all that are requested and that nobody blocks, and none where a set is at fault about one
abbrev pub all_free : {Set : Type 0} → Has Set → List (Live Set) → List PlainEvent
all_free has ts = or_none (unblocked has ts (candidates ts))

-- the choice of this event, where a word is drawn or none
abbrev pub chosen_as : PlainEvent → Bool → ℕ → Choice
chosen_as e draws drawn =
    record { event = e; place = None; drawn = if draws then drawn + 1 else drawn }
