use Rattle.std.proofs.Common.{◌≡◌}
use Rattle.rtrb.specs.Ring.{received, SameConsumer}
use Rattle.bp_inject.proofs.running.take_and_turn.Given as goal

abbrev pub invariant-loop : goal.invariant-loop
invariant-loop g l = record {
  same : SameConsumer l.fn.intake l.intake;
  none : received l.intake ≡ received l.fn.intake;
}
