use Rattle.std.proofs.Common.{map, take}
use Rattle.bp_live.specs.Lives.{live_of, lent}
use Rattle.bp_select.specs.inner.Parts.{IsPart, blocks_nothing}
use Rattle.bp_select.proofs.picking.all_blocking.Given as goal

abbrev pub invariant-loop-stated : goal.invariant-loop-stated
invariant-loop-stated l = IsPart blocks_nothing (map lent l.blocking.items) (map live_of (take l.stated-index l.live))
