use Rattle.std.proofs.Common.{◌≡◌, drop}
use Rattle.std.specs.List.{list_any}
use Rattle.bp_session.specs.inner.Turning.{turns_here}
use Rattle.bp_session.proofs.turning.some_turn_here.Given as goal

abbrev pub invariant-loop-reading : goal.invariant-loop-reading
invariant-loop-reading g l = record {
  rest : list_any turns_here l.readings.items ≡ list_any turns_here (drop l.reading-index l.readings.items);
}
