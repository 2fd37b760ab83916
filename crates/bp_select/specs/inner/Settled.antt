-- What a question about events rests on.
use Rattle.std.specs.Prelude.{ℕ, List}
use Rattle.js_value.specs.Value.{PlainSet}
use Rattle.js_meaning.specs.State.{Ground}
use Rattle.bp_run.specs.Selecting.{Live}
use Rattle.bp_known.specs.Known.{AreKnown, sets_in}
use Rattle.bp_roll.specs.Rolls.{PlainRoll}
use Rattle.bp_select.specs.Blocks.{AreOf}
use Rattle.bp_live.specs.Places.{AreInOrder}
use Rattle.bp_select.specs.Tallies.{Each}
use Rattle.bp_select.specs.inner.BlockSets.{PlainBlocks}
use Rattle.bp_select.specs.inner.Heeding.{IsNoted}

-- the b-threads are in order, the block sets are theirs, and what is told under these is so
pub record AreSettled (base : Ground) (budget : ℕ) (ts : List (Live PlainSet)) (b : PlainBlocks)
    : Type 0 where
  pub order : AreInOrder ts
  pub sets : AreOf ts (sets_in b.sets)
  pub known : AreKnown base budget (sets_in b.sets) b.told

-- and all are noted
pub record AreReady (base : Ground) (budget : ℕ) (ts : List (Live PlainSet)) (r : PlainRoll)
    (b : PlainBlocks) : Type 0 where
  pub settled : AreSettled base budget ts b
  pub noted : Each (λ t. IsNoted r t) ts
