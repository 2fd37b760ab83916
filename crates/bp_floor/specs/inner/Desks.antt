-- What contracts see of a desk: a bench, the queue, and what is known of the queue's front.
use Rattle.std.specs.Prelude.{◌≡◌, ℕ, nat_lt, nat_eq, Bool, true, false, List, [], ◌∷◌, ◌++◌, Option, Some, None, Ok, Err, length, map, take, ◌+◌, option_map, option_to_list, if◌then◌else◌, All}
use Rattle.std.specs.List.{list_any}
use Rattle.js_data.specs.Event.{PlainEvent}
use Rattle.js_value.specs.Value.{PlainSet, any, no_sets}
use Rattle.js_meaning.specs.State.{Ground}
use Rattle.bp_run.specs.Bodies.{Statement, Outcome}
use Rattle.bp_run.specs.Bodies.Outcome.{Stopped, Ended, Broken, Violated, Spent}
use Rattle.bp_run.specs.Selecting.{Live, Enabled}
use Rattle.bp_meaning.specs.Membership.{Membership, member}
use Rattle.bp_select.specs.Benches as bench
use Rattle.bp_select.specs.Benches.{PlainBench}
use Rattle.bp_select.specs.declared.answers.Choice.{Choice}
use Rattle.bp_select.specs.declared.answers.Choice.TheVariants.{Internal, External, Nothing}
use Rattle.bp_floor.specs.inner.Seats.{PlainSeat, outcome_in}

-- this many events at the front of the queue are known to be blocked, by the block sets on the bench and by
-- those that are away
pub record PlainFront : Type 0 where
  pub blocked : ℕ
  pub away : List PlainSet

pub record PlainDesk : Type 0 where
  pub bench : PlainBench
  pub queue : List PlainEvent
  pub front : PlainFront

abbrev pub nothing_known : PlainFront
nothing_known = record { blocked = 0; away = [] }

-- a block set has left the bench
abbrev pub HasGone : PlainSet → PlainFront → PlainFront → Type 0
HasGone s old new = new ≡ record old { away = old.away ++ s ∷ [] }

-- a block set has come back, which was the first that was away
abbrev pub HasCome : PlainSet → PlainFront → PlainFront → Type 0
HasCome s old new = old ≡ record new { away = s ∷ new.away }

-- what was on the bench or away before is so now
pub record IsRestated (before after : Option PlainSet) (old new : PlainFront) : Type 0 where
  pub blocked : new.blocked ≡ old.blocked
  pub sets : old.away ++ option_to_list before ≡ option_to_list after ++ new.away

abbrev pub is_fault : Membership → Bool
is_fault (Ok b) = false
is_fault (Err f) = true

abbrev pub is_yes : Membership → Bool
is_yes (Ok b) = b
is_yes (Err f) = false

-- each of these sets can tell whether it has e, and one has it
pub record IsBlocked (base : Ground) (budget : ℕ) (sets : List PlainSet) (e : PlainEvent) : Type 0 where
  pub told : list_any (λ s. is_fault (member base budget s e)) sets ≡ false
  pub had : list_any (λ s. is_yes (member base budget s e)) sets ≡ true

abbrev pub block_sets : List (Live PlainSet) → List PlainSet
block_sets ts = map (λ t. t.statement.block) ts

-- what is kept of block sets is so under this ground and budget
pub record Fits (d : PlainDesk) (base : Ground) (budget : ℕ) : Type 0 where
  pub bench : bench.Fits d.bench base budget
  pub front : All (IsBlocked base budget (block_sets d.bench.live ++ d.front.away))
      (take d.front.blocked d.queue)

-- it blocks nothing
abbrev pub no_block : PlainSet
no_block = any no_sets

-- what the live b-thread of this number blocks
abbrev pub block_at : ℕ → List (Live PlainSet) → PlainSet
block_at n [] = no_block
block_at n (t ∷ ts) =
    if nat_lt n t.number then no_block
    else if nat_eq n t.number then t.statement.block
    else block_at n ts

-- what a statement blocks, if there is one
abbrev pub block_stated : Option (Statement PlainSet) → PlainSet
block_stated None = no_block
block_stated (Some s) = s.block

abbrev pub block_in : Option (Outcome PlainSet) → PlainSet
block_in None = no_block
block_in (Some (Stopped s)) = s.block
block_in (Some Ended) = no_block
block_in (Some (Broken f l)) = no_block
block_in (Some (Violated t)) = no_block
block_in (Some Spent) = no_block

-- what a b-thread blocks
abbrev pub block_of : PlainSeat → PlainSet
block_of s = if s.ended then no_block else block_in (outcome_in s.job)

abbrev pub block_of_seat : Option PlainSeat → PlainSet
block_of_seat None = no_block
block_of_seat (Some s) = block_of s

-- a choice from the queue, where this many events at its front were left out
abbrev pub shifted : ℕ → Choice → Choice
shifted n (Internal e) = Internal e
shifted n (External place) = External (n + place)
shifted n Nothing = Nothing

abbrev pub enabled_behind : ℕ → Enabled → Enabled
enabled_behind n x = record x { outer = option_map (λ place. n + place) x.outer }

-- how many events at the front are known to be blocked after a choice among those after
abbrev pub learned : PlainDesk → Choice → ℕ
learned d (Internal e) = d.front.blocked
learned d (External place) = d.front.blocked + place
learned d Nothing = length d.queue
