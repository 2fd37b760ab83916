use Rattle.std.proofs.Common.{◌≡◌, false, length}
use Rattle.bp_arbiter.specs.Arbiters.{stand_in}
use Rattle.bp_core.specs.Cores.{KeepsProgram}
use Rattle.bp_turns.specs.Settled.{IsSomewhereHere, SettlesCore}
use Rattle.bp_turns.proofs.Measure.{core_turns_left}
use Rattle.bp_turns.proofs.cores.settle_core.Given as goal

abbrev pub invariant-loop-alloc : goal.invariant-loop-alloc
invariant-loop-alloc g l = record {
  somewhere : IsSomewhereHere l.core;
  settles : SettlesCore l.fn.core l.core;
  kept : KeepsProgram l.fn.core.arbiter l.core.arbiter;
  inside : l.core.out ≡ false;
}

abbrev pub decreases-loop-alloc : goal.decreases-loop-alloc
decreases-loop-alloc g l = core_turns_left l.core.arbiter.phase (length (stand_in l.core.arbiter).threads)
