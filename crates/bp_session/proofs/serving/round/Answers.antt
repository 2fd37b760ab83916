use Rattle.std.proofs.Common.{◌≡◌, false, rules}
use Rattle.bp_session.specs.inner.Readings.{GoesOnAs}
use Rattle.bp_session.proofs.Readings.{pairs_many}
use Rattle.bp_session.specs.inner.Outlets.{given_to}
use Rattle.bp_told.specs.declared.fault.RunFault.TheVariants.{Memory}
use Rattle.bp_session.specs.declared.stop.Stop.TheVariants as stop
use Rattle.bp_session.specs.inner.Serving.{StopsServing}
use Rattle.bp_session.proofs.Hears.{heard_still, go_none, go_both, all_out, out_still}
use Rattle.bp_session.proofs.Causes.{writes_none, writes_lack, writes_on, hearing_writes, memory_writes, stops_at}
use Rattle.bp_session.proofs.Rounds.{from_err, whole_ready, hear_serves, picked_serves, serves_still, breaks_then, pick_breaks, memory_stops, hear_stops, turn_stops_then, heard_somewhere, picked_heard, none_heard, somewhere_ready, untold_waits, items_stay}
use Rattle.bp_session.proofs.serving.round.Goals as goal

pub returns-in_err-ask_halt-clause-stops : goal.returns-in_err-ask_halt-clause-stops
returns-in_err-ask_halt-clause-stops g c =
    let now = given_to g.K.Sink c.args.outlets.now in
    from_err _ _ (StopsServing g.L.Sink.written c.args.core.now now c.args.telling.now c.args.core.now now c.args.telling.now c.args.readings.now.items) c.from_residual.ensures.1 (memory_stops g.L.Sink.written c.args.readings.now.items c.args.core.now now c.args.telling.now _ c.in_err-ask_halt.ensures)

pub returns-in_err-ask_halt-clause-writes : goal.returns-in_err-ask_halt-clause-writes
returns-in_err-ask_halt-clause-writes g c =
    stops_at _ _ c.from_residual.ensures.1 (memory_writes _ c.args.outlets.now c.in_err-ask_halt.ensures)

pub hear_all-requires-clause-whole : goal.hear_all-requires-clause-whole
hear_all-requires-clause-whole g c = whole_ready c.requires.can.ready

pub returns-in_err-heard-clause-stops : goal.returns-in_err-heard-clause-stops
returns-in_err-heard-clause-stops g c =
    let now = given_to g.K.Sink c.args.outlets.now in
    from_err _ _ (StopsServing g.L.Sink.written c.args.core.now now c.args.telling.now c.hear_all.new.core now c.args.telling.now c.hear_all.new.readings.items) c.from_residual-in_err-heard.ensures.1 (hear_stops g.L.Sink.written c.hear_all.new.readings.items c.args.core.now c.hear_all.new.core now c.args.telling.now _ c.hear_all.ensures.hears c.hear_all.ensures.rest c.in_err-heard.ensures.stops)

pub returns-in_err-heard-clause-writes : goal.returns-in_err-heard-clause-writes
returns-in_err-heard-clause-writes g c =
    stops_at _ _ c.from_residual-in_err-heard.ensures.1 (hearing_writes c.hear_all.new.readings.items _ c.args.outlets.now c.in_err-heard.ensures.stops)

pub returns-in_err-picked-clause-stops : goal.returns-in_err-picked-clause-stops
returns-in_err-picked-clause-stops g c =
    let now = given_to g.K.Sink c.args.outlets.now in
    from_err _ _ (StopsServing g.L.Sink.written c.args.core.now now c.args.telling.now c.pick.new.core now c.args.telling.now c.hear_all.new.readings.items) c.from_residual-in_err-picked.ensures.1
    (breaks_then (hear_serves g.L.Sink.written c.args.core.now c.hear_all.new.core now c.args.telling.now c.hear_all.ensures.hears) (pick_breaks g.L.Sink.written c.hear_all.new.core c.pick.new.core now c.args.telling.now Memory c.pick.ensures.kept c.in_err-picked.ensures.cut))

pub returns-in_err-picked-clause-writes : goal.returns-in_err-picked-clause-writes
returns-in_err-picked-clause-writes g c =
    stops_at _ (stop.Broken Memory) c.from_residual-in_err-picked.ensures.1 (writes_lack (writes_none c.args.outlets.now))

pub returns-then-heard-clause-serves : goal.returns-then-heard-clause-serves
returns-then-heard-clause-serves g c =
    let now = given_to g.K.Sink c.args.outlets.now in
    picked_serves g.L.Sink.written c.args.core.now c.hear_all.new.core c.pick.new.core now c.args.telling.now c.hear_all.ensures.hears c.pick.ensures.kept c.in_ok-picked.ensures.picks

-- nothing comes until an item does: so the run waits
pub turn_here-requires-clause-waiting : goal.turn_here-requires-clause-waiting
turn_here-requires-clause-waiting g c κs o = c.in_ok-picked.ensures.waits (heard_somewhere c.requires.can.ready c.hear_all.ensures.hears) (search rules)

-- each injector was heard out, and nothing of the run is untold
pub turn_here-requires-clause-heard : goal.turn_here-requires-clause-heard
turn_here-requires-clause-heard g c κs o =
    let still = none_heard c.hear_all.ensures.hears c.in_ok-heard.ensures.some (search rules) in
    all_out c.args.core.now c.hear_all.new.core c.pick.new.core c.args.readings.now.items c.hear_all.new.readings.items (somewhere_ready c.requires.can.ready) still (c.in_ok-picked.ensures.stays (search rules))
    (pairs_many (GoesOnAs g.S.Source.left g.S.Source.faults) c.args.readings.now.items c.hear_all.new.readings.items c.hear_all.ensures.goes_on) c.in_ok-heard.ensures.were

pub turn_here-requires-clause-untold : goal.turn_here-requires-clause-untold
turn_here-requires-clause-untold g c κs o =
    untold_waits c.requires.can.ready c.hear_all.ensures.hears c.in_ok-heard.ensures.some (search rules) (c.in_ok-picked.ensures.stays (search rules)) c.requires.untold

pub wait_where-requires-clause-waiting : goal.wait_where-requires-clause-waiting
wait_where-requires-clause-waiting g c κs o = c.in_ok-picked.ensures.waits (heard_somewhere c.requires.can.ready c.hear_all.ensures.hears) (search rules)

pub returns-in_err-turned-clause-stops : goal.returns-in_err-turned-clause-stops
returns-in_err-turned-clause-stops g c =
    let now = given_to g.K.Sink c.args.outlets.now in
    let served = picked_serves g.L.Sink.written c.args.core.now c.hear_all.new.core c.pick.new.core now c.args.telling.now c.hear_all.ensures.hears c.pick.ensures.kept c.in_ok-picked.ensures.picks in
    let then = given_to g.K.Sink c.turn_here.new.outlets in
    from_err _ _ (StopsServing g.L.Sink.written c.args.core.now now c.args.telling.now c.pick.new.core then c.turn_here.new.telling c.turn_here.new.readings.items) c.from_residual-in_err-turned.ensures.1 (turn_stops_then g.L.Sink.written c.turn_here.new.readings.items c.args.core.now c.pick.new.core now now then c.args.telling.now c.args.telling.now c.turn_here.new.telling _ served c.in_err-turned.ensures.stops)

pub returns-in_err-turned-clause-writes : goal.returns-in_err-turned-clause-writes
returns-in_err-turned-clause-writes g c =
    stops_at _ _ c.from_residual-in_err-turned.ensures.1 c.in_err-turned.ensures.writes

pub returns-in_err-wait_where-clause-stops : goal.returns-in_err-wait_where-clause-stops
returns-in_err-wait_where-clause-stops g c =
    let now = given_to g.K.Sink c.args.outlets.now in
    let served = picked_serves g.L.Sink.written c.args.core.now c.hear_all.new.core c.pick.new.core now c.args.telling.now c.hear_all.ensures.hears c.pick.ensures.kept c.in_ok-picked.ensures.picks in
    let then = given_to g.K.Sink c.turn_here.new.outlets in
    let last = given_to g.K.Sink c.wait_where.new.outlets in
    let turned = serves_still g.L.Sink.written c.args.core.now c.pick.new.core now now then c.args.telling.now c.args.telling.now c.turn_here.new.telling served c.in_ok-turned.ensures.told.still in
    from_err _ _ (StopsServing g.L.Sink.written c.args.core.now now c.args.telling.now c.pick.new.core last c.wait_where.new.telling c.turn_here.new.readings.items) c.from_residual-in_err-wait_where.ensures.1
    (turn_stops_then g.L.Sink.written c.turn_here.new.readings.items c.args.core.now c.pick.new.core now then last c.args.telling.now c.turn_here.new.telling c.wait_where.new.telling _ turned c.in_err-wait_where.ensures.stops)

pub returns-in_err-wait_where-clause-writes : goal.returns-in_err-wait_where-clause-writes
returns-in_err-wait_where-clause-writes g c =
    stops_at _ _ c.from_residual-in_err-wait_where.ensures.1 (writes_on c.in_ok-turned.ensures.writes c.in_err-wait_where.ensures.writes)

pub returns-clause-serves : goal.returns-clause-serves
returns-clause-serves g c =
    let now = given_to g.K.Sink c.args.outlets.now in
    let served = picked_serves g.L.Sink.written c.args.core.now c.hear_all.new.core c.pick.new.core now c.args.telling.now c.hear_all.ensures.hears c.pick.ensures.kept c.in_ok-picked.ensures.picks in
    let then = given_to g.K.Sink c.turn_here.new.outlets in
    let last = given_to g.K.Sink c.wait_where.new.outlets in
    let turned = serves_still g.L.Sink.written c.args.core.now c.pick.new.core now now then c.args.telling.now c.args.telling.now c.turn_here.new.telling served c.in_ok-turned.ensures.told.still in
    serves_still g.L.Sink.written c.args.core.now c.pick.new.core now then last c.args.telling.now c.turn_here.new.telling c.wait_where.new.telling turned c.in_ok-wait_where.ensures.told.still

pub returns-clause-writes : goal.returns-clause-writes
returns-clause-writes g c = writes_on c.in_ok-turned.ensures.writes c.in_ok-wait_where.ensures.writes

pub returns-in_err-ask_halt-clause-hears : goal.returns-in_err-ask_halt-clause-hears
returns-in_err-ask_halt-clause-hears g c =
    record {
      heard = c.requires.can.heard;
      goes_on = go_none g.S.Source.left g.S.Source.faults c.args.readings.now.items;
    }

pub returns-in_err-heard-clause-hears : goal.returns-in_err-heard-clause-hears
returns-in_err-heard-clause-hears g c =
    record {
      heard = c.hear_all.ensures.heard;
      goes_on = c.hear_all.ensures.goes_on;
    }

pub returns-in_err-picked-clause-hears : goal.returns-in_err-picked-clause-hears
returns-in_err-picked-clause-hears g c =
    record {
      heard = picked_heard c.pick.new.core c.hear_all.new.readings.items c.requires.can.ready c.hear_all.ensures.hears c.pick.ensures.items c.hear_all.ensures.heard;
      goes_on = c.hear_all.ensures.goes_on;
    }

pub returns-then-heard-clause-hears : goal.returns-then-heard-clause-hears
returns-then-heard-clause-hears g c =
    record {
      heard = picked_heard c.pick.new.core c.hear_all.new.readings.items c.requires.can.ready c.hear_all.ensures.hears c.pick.ensures.items c.hear_all.ensures.heard;
      goes_on = c.hear_all.ensures.goes_on;
    }

pub returns-in_err-turned-clause-hears : goal.returns-in_err-turned-clause-hears
returns-in_err-turned-clause-hears g c =
    record {
      heard = picked_heard c.pick.new.core c.turn_here.new.readings.items c.requires.can.ready c.hear_all.ensures.hears c.pick.ensures.items
          (heard_still c.hear_all.new.core.arbiter.records c.hear_all.new.readings.items c.turn_here.new.readings.items c.turn_here.ensures.hearing c.hear_all.ensures.heard);
      goes_on = go_both g.S.Source.left g.S.Source.faults c.args.readings.now.items c.hear_all.new.readings.items c.turn_here.new.readings.items c.hear_all.ensures.goes_on c.turn_here.ensures.goes_on;
    }

pub returns-in_err-wait_where-clause-hears : goal.returns-in_err-wait_where-clause-hears
returns-in_err-wait_where-clause-hears g c =
    record {
      heard = picked_heard c.pick.new.core c.turn_here.new.readings.items c.requires.can.ready c.hear_all.ensures.hears c.pick.ensures.items
          (heard_still c.hear_all.new.core.arbiter.records c.hear_all.new.readings.items c.turn_here.new.readings.items c.turn_here.ensures.hearing c.hear_all.ensures.heard);
      goes_on = go_both g.S.Source.left g.S.Source.faults c.args.readings.now.items c.hear_all.new.readings.items c.turn_here.new.readings.items c.hear_all.ensures.goes_on c.turn_here.ensures.goes_on;
    }

pub returns-clause-hears : goal.returns-clause-hears
returns-clause-hears g c =
    record {
      heard = picked_heard c.pick.new.core c.turn_here.new.readings.items c.requires.can.ready c.hear_all.ensures.hears c.pick.ensures.items
          (heard_still c.hear_all.new.core.arbiter.records c.hear_all.new.readings.items c.turn_here.new.readings.items c.turn_here.ensures.hearing c.hear_all.ensures.heard);
      goes_on = go_both g.S.Source.left g.S.Source.faults c.args.readings.now.items c.hear_all.new.readings.items c.turn_here.new.readings.items c.hear_all.ensures.goes_on c.turn_here.ensures.goes_on;
    }

-- if nothing was heard, nothing of an injector is recorded
pub returns-then-heard-clause-unheard : goal.returns-then-heard-clause-unheard
returns-then-heard-clause-unheard g c = λ none.
    items_stay c.pick.new.core c.requires.can.ready c.hear_all.ensures.hears c.in_ok-heard.ensures.some c.pick.ensures.items none

pub returns-clause-unheard : goal.returns-clause-unheard
returns-clause-unheard g c = λ none.
    items_stay c.pick.new.core c.requires.can.ready c.hear_all.ensures.hears c.in_ok-heard.ensures.some c.pick.ensures.items (search rules)

-- no own turn was left, so the session may wait
pub wait_where-requires-clause-nobody : goal.wait_where-requires-clause-nobody
wait_where-requires-clause-nobody g c κs o = λ w.
    let none : c.in_ok-turned.turned ≡ false = search rules in
    c.in_ok-turned.ensures.rested none

-- each injector was heard out, also after the own turns, of which there was none
pub wait_where-requires-clause-heard : goal.wait_where-requires-clause-heard
wait_where-requires-clause-heard g c κs o =
    let still = none_heard c.hear_all.ensures.hears c.in_ok-heard.ensures.some (search rules) in
    out_still c.pick.new.core c.hear_all.new.readings.items c.turn_here.new.readings.items c.turn_here.ensures.hearing
    (all_out c.args.core.now c.hear_all.new.core c.pick.new.core c.args.readings.now.items c.hear_all.new.readings.items (somewhere_ready c.requires.can.ready) still (c.in_ok-picked.ensures.stays (search rules))
    (pairs_many (GoesOnAs g.S.Source.left g.S.Source.faults) c.args.readings.now.items c.hear_all.new.readings.items c.hear_all.ensures.goes_on) c.in_ok-heard.ensures.were)
