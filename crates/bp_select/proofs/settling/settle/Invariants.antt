use Rattle.std.proofs.Common.{List, map}
use Rattle.js_value.specs.Value.{PlainSet}
use Rattle.js_frames.specs.Places.{plain_ground}
use Rattle.bp_known.specs.Known.{AreKnown, sets_in}
use Rattle.bp_run.specs.Selecting.{Live}
use Rattle.bp_live.specs.Lives.{live_of}
use Rattle.bp_select.specs.Tallies.{Tallied}
use Rattle.bp_select.specs.inner.Counted.{plain_tally}
use Rattle.bp_select.proofs.Noting.{AreSettledBefore}
use Rattle.bp_select.proofs.settling.settle.Given as goal

abbrev pub invariant-loop-at : goal.invariant-loop-at
invariant-loop-at l = record {
  settled : AreSettledBefore (map live_of l.live) (sets_in l.blocks.sets) l.changed.items l.at;
  known : AreKnown (plain_ground l.ground) l.budget (sets_in l.blocks.sets) l.blocks.told;
  tallied :
      (ts : List (Live PlainSet)) → Tallied (plain_ground l.ground) l.budget (sets_in l.fn.blocks.sets) ts (plain_tally l.fn.tally) →
      Tallied (plain_ground l.ground) l.budget (sets_in l.blocks.sets) ts (plain_tally l.tally);
}
