use Rattle.bp_explain.proofs.Left.{left_last}
use Rattle.bp_explain.proofs.leaving.left_of.Goals as goal

pub returns : goal.returns
returns c = left_last c.args.strategy c.args.stops.now c.args.inner.now c.loop-event.event-index c.loop-event.left.items c.loop-event-test.false c.loop-event.invariant
