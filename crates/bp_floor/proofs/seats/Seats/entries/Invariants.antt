use Rattle.std.proofs.Common.{map, drop}
use Rattle.std.specs.Arc.{arc_value}
use Rattle.bp_floor.specs.inner.Reached.{touch_seen}
use Rattle.bp_floor.proofs.Handlers.{Entering}
use Rattle.bp_floor.proofs.seats.Seats.entries.Given as goal

abbrev pub invariant-loop-touch : goal.invariant-loop-touch
invariant-loop-touch l = record { entering : Entering (arc_value l.event) (map touch_seen l.touches) (map touch_seen (drop l.touch-index l.touches)) l.self l.wave }
