use Rattle.std.proofs.Common.{◌+◌, ◌≤◌}
use Rattle.bp_seeds.specs.inner.Merged.{total}
use Rattle.bp_seeds.specs.inner.Parts.{AreCounts}
use Rattle.bp_seeds.proofs.sweep.counted.Given as goal

abbrev pub invariant-loop-step : goal.invariant-loop-step
invariant-loop-step l = record {
  told : AreCounts l.bytes (l.sweep).options l.step ((l.sweep).first + l.start) l.counts;
  few : total l.counts ≤ l.step;
}
