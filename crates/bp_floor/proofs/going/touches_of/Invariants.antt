use Rattle.std.proofs.Common.{map}
use Rattle.bp_floor.specs.inner.Reached.{touch_seen}
use Rattle.bp_floor.proofs.Weaving.{Weaves}
use Rattle.bp_floor.proofs.going.touches_of.Given as goal

abbrev pub invariant-loop-touch : goal.invariant-loop-touch
invariant-loop-touch l = record { weaves : Weaves l.reach l.moved l.interrupted l._touch (map touch_seen l.touches.items) }
