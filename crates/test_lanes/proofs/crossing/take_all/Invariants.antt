use Rattle.bp_lanes.specs.Lanes.{IsSameEar}
use Rattle.test_lanes.proofs.crossing.take_all.Given as goal

abbrev pub invariant-loop : goal.invariant-loop
invariant-loop g l = record {
  one : IsSameEar l.fn.ear l.ear;
  two : IsSameEar l.fn.other l.other;
}
