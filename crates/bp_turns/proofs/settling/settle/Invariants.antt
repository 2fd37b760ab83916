use Rattle.std.proofs.Common.{◌≡◌, ◌≤◌, length}
use Rattle.bp_arbiter.specs.Arbiters.{stand_in, StandsSomewhere}
use Rattle.bp_turns.specs.Turning.{Settles}
use Rattle.bp_turns.proofs.Measure.{turns_left}
use Rattle.bp_turns.proofs.settling.settle.Given as goal

abbrev pub invariant-loop-alloc : goal.invariant-loop-alloc
invariant-loop-alloc g l = record {
  stands : StandsSomewhere l.arbiter;
  settles : Settles l.fn.arbiter l.arbiter;
  records : length l.fn.arbiter.records ≤ length l.arbiter.records;
  program : l.arbiter.floor.base.program ≡ l.fn.arbiter.floor.base.program;
}

abbrev pub decreases-loop-alloc : goal.decreases-loop-alloc
decreases-loop-alloc g l = turns_left l.arbiter.phase (length (stand_in l.arbiter).threads)
