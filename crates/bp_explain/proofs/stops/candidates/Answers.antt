use Rattle.bp_explain.proofs.Noted.{stop_step, stop_last}
use Rattle.bp_explain.proofs.stops.candidates.Goals as goal

pub loop-stop-preserved : goal.loop-stop-preserved
loop-stop-preserved c =
    stop_step c.args.stops.now c.loop-stop.stop-index c.stop-item.result c.loop-stop.events.items c.note_all.new.events.items _ c.loop-stop-test.true c.stop-item.is c.in_ok-note_all.ensures c.loop-stop.invariant

pub returns : goal.returns
returns c = stop_last c.args.stops.now c.loop-stop.stop-index c.loop-stop.events.items c.loop-stop-test.false c.loop-stop.invariant
