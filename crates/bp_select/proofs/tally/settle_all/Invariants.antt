use Rattle.std.proofs.Common.{◌≡◌, drop, map}
use Rattle.js_frames.specs.Places.{plain_ground}
use Rattle.bp_known.specs.Known.{sets_in}
use Rattle.bp_live.specs.Lives.{live_of}
use Rattle.bp_select.specs.inner.Settled.{AreReady}
use Rattle.bp_select.specs.Tallies.{AreTallied}
use Rattle.bp_select.proofs.tally.settle_all.Given as goal

abbrev pub invariant-loop-number : goal.invariant-loop-number
invariant-loop-number l = record {
  sets : l.blocks.sets ≡ l.fn.blocks.sets;
  ready : AreReady (plain_ground l.ground) l.budget (map live_of l.live) l.roll l.blocks;
  tallied : AreTallied (plain_ground l.ground) l.budget (sets_in l.fn.blocks.sets) (map live_of l.live) (drop l.number-index l.changed) l.counts;
}
