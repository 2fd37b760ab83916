-- What stays settled while questions are asked.
use Rattle.std.proofs.Common.{◌≡◌, ℕ, List, subst, sym}
use Rattle.js_value.specs.Value.{PlainSet}
use Rattle.js_meaning.specs.State.{Ground}
use Rattle.bp_run.specs.Selecting.{Live}
use Rattle.bp_known.specs.Known.{AreKnown, Sets, sets_in}
use Rattle.bp_roll.specs.Rolls.{PlainRoll}
use Rattle.bp_select.specs.Blocks.{AreOf}
use Rattle.bp_select.specs.inner.BlockSets.{PlainBlocks}
use Rattle.bp_select.specs.inner.Parts.{IsPart, blocks_nothing}
use Rattle.bp_select.specs.inner.Settled.{AreReady, AreSettled}
use Rattle.bp_select.proofs.PartLemmas.{of_part, order_part}

module _ (base : Ground) (budget : ℕ) (ts : List (Live PlainSet)) (old new : PlainBlocks) (same : new.sets ≡ old.sets) (known : AreKnown base budget (sets_in old.sets) new.told) where
  -- more is told, under the same sets
  pub settled_after : AreSettled base budget ts old → AreSettled base budget ts new
  settled_after h = record {
    order = h.order;
    sets = subst (λ (es : List (ℕ × PlainSet)). AreOf ts (sets_in es)) (sym same) h.sets;
    known = subst (λ (es : List (ℕ × PlainSet)). AreKnown base budget (sets_in es) new.told) (sym same) known;
  }

  pub ready_after : (roll : PlainRoll) → AreReady base budget ts roll old → AreReady base budget ts roll new
  ready_after roll h = record { settled = settled_after h.settled; noted = h.noted }

-- a question begins
pub begun : (base : Ground) (budget : ℕ) (ts : List (Live PlainSet)) (old new : PlainBlocks) → new.sets ≡ old.sets →
    ((b : Ground) (n : ℕ) (sets : Sets) → AreKnown b n sets old.told → AreKnown b n sets new.told) → AreSettled base budget ts old → AreSettled base budget ts new
begun base budget ts old new same still h = settled_after base budget ts old new same (still base budget (sets_in old.sets) h.known) h

-- those that block nothing are left out
pub settled_part : (base : Ground) (budget : ℕ) (ss ts : List (Live PlainSet)) (b : PlainBlocks) → IsPart blocks_nothing ss ts → AreSettled base budget ts b → AreSettled base budget ss b
settled_part base budget ss ts b p h = record { order = order_part blocks_nothing ss ts p h.order; sets = of_part ss ts (sets_in b.sets) p h.order h.sets; known = h.known }
