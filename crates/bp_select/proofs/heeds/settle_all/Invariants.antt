use Rattle.std.proofs.Common.{map, drop}
use Rattle.bp_select.specs.inner.Heeding.{AreNoted}
use Rattle.bp_live.specs.Lives.{live_of}
use Rattle.bp_select.proofs.heeds.settle_all.Given as goal

abbrev pub invariant-loop-number : goal.invariant-loop-number
invariant-loop-number l = AreNoted (map live_of l.live) l.roll (drop l.number-index l.changed)
