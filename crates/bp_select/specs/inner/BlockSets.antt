-- What contracts see of block sets, and what they answer of one event.
use Rattle.std.specs.Prelude.{◌≡◌, ◌⊎◌, ℕ, Bool, false, not, List, Contains, Option, Some, None, if◌then◌else◌}
use Rattle.js_value.specs.Value.{PlainSet}
use Rattle.bp_run.specs.Bodies.{Statement}
use Rattle.bp_run.specs.Selecting.{Live}
use Rattle.bp_known.specs.declared.known.Known.{Known}
use Rattle.bp_known.specs.declared.known.Known.TheVariants.{Free, Blocked}
use Rattle.bp_known.specs.declared.known.Told.{Told}
use Rattle.bp_known.specs.Known.{Sets}
use Rattle.bp_select.specs.Blocks.{block_at}
use Rattle.bp_select.specs.EmptySets.{is_empty}

-- block sets by number, and what is told of events
pub record PlainBlocks : Type 0 where
  pub sets : List (ℕ × PlainSet)
  pub told : List Told

-- the sets are those of these b-threads, but for those whose numbers are among the changed
pub record AreOfUnchanged (ts : List (Live PlainSet)) (sets : Sets) (changed : List ℕ) : Type 0 where
  pub each : (n : ℕ) → Contains changed n ⊎ (sets n ≡ block_at ts n)

-- whether the statement, if there is one, has a block set that is not plainly empty
abbrev pub has_block : Option (Statement PlainSet) → Bool
has_block None = false
has_block (Some s) = not (is_empty s.block)

-- no block set of this number is noted, and its b-thread, which states this, has none
pub record HasNoBlock (sets : Sets) (n : ℕ) (o : Option (Statement PlainSet)) : Type 0 where
  pub noted : sets n ≡ None
  pub stated : has_block o ≡ false

-- all sets were asked, and that of this b-thread has it, or none
abbrev pub known_of : Option ℕ → Known
known_of None = Free
known_of (Some n) = Blocked n

-- the first of two, or this one where it has the event
abbrev pub first_by : Option ℕ → Bool → ℕ → Option ℕ
first_by (Some m) here n = Some m
first_by None here n = if here then Some n else None
