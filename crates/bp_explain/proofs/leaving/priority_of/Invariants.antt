use Rattle.std.proofs.Common.{◌≡◌, ◌≤◌, length, drop, map}
use Rattle.bp_run.specs.Choosing.{priority_of}
use Rattle.bp_explain.specs.Stops.{live_of}
use Rattle.bp_explain.proofs.leaving.priority_of.Given as goal

abbrev pub invariant-loop-place : goal.invariant-loop-place
invariant-loop-place l = record {
  within : l.place ≤ length l.stops;
  top : l.top ≡ priority_of (map live_of (drop l.place l.stops)) l.event;
}

abbrev pub decreases-loop-place : goal.decreases-loop-place
decreases-loop-place l = l.place
