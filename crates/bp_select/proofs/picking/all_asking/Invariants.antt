use Rattle.std.proofs.Common.{map, take}
use Rattle.bp_live.specs.Lives.{live_of, lent}
use Rattle.bp_select.specs.inner.Parts.{IsPart, asks_nothing}
use Rattle.bp_select.proofs.picking.all_asking.Given as goal

abbrev pub invariant-loop-stated : goal.invariant-loop-stated
invariant-loop-stated l = IsPart asks_nothing (map lent l.asking.items) (map live_of (take l.stated-index l.live))
