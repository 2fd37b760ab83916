use Rattle.bp_lanes.specs.Lanes.{IsSameMouth}
use Rattle.test_lanes.proofs.lanes.offered.Given as goal

abbrev pub invariant-loop-number : goal.invariant-loop-number
invariant-loop-number l = IsSameMouth l.fn.mouth l.mouth
