use Rattle.bp_lanes.specs.Lanes.{IsSameEar}
use Rattle.test_lanes.proofs.told.add_taken.Given as goal

abbrev pub invariant-loop : goal.invariant-loop
invariant-loop l = IsSameEar l.fn.ear l.ear
