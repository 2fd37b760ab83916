use Rattle.std.proofs.Common.{refl}
use Rattle.bp_told.specs.declared.fault.RunFault.TheVariants.{Memory}
use Rattle.bp_session.specs.declared.stop.Stop.TheVariants as stop
use Rattle.bp_session.specs.inner.Outlets.{given_to}
use Rattle.bp_session.specs.inner.Serving.{StopsTurning}
use Rattle.bp_session.proofs.Causes.{writes_none, writes_lack, stops_at}
use Rattle.bp_session.proofs.Rounds.{from_err, still_none}
use Rattle.bp_session.proofs.serving.verdict_shown.Goals as goal

pub returns-in_err-verdict-clause-stops : goal.returns-in_err-verdict-clause-stops
returns-in_err-verdict-clause-stops g c =
    let now = given_to g.K.Sink c.args.outlets.now in
    from_err c.from_residual.result (stop.Broken Memory) (StopsTurning g.L.Sink.written now c.args.telling.now now c.args.telling.now) c.from_residual.ensures.1 (refl, still_none g.L.Sink.written now c.args.telling.now)

pub returns-in_err-verdict-clause-writes : goal.returns-in_err-verdict-clause-writes
returns-in_err-verdict-clause-writes g c =
    stops_at c.from_residual.result (stop.Broken Memory) c.from_residual.ensures.1 (writes_lack (writes_none c.args.outlets.now))

pub returns-in_err-write_and_show-clause-stops : goal.returns-in_err-write_and_show-clause-stops
returns-in_err-write_and_show-clause-stops g c =
    from_err c.from_residual-in_err-write_and_show.result _ (StopsTurning g.L.Sink.written (given_to g.K.Sink c.args.outlets.now) c.args.telling.now (given_to g.K.Sink c.write_and_show.new.outlets) c.write_and_show.new.telling) c.from_residual-in_err-write_and_show.ensures.1 c.in_err-write_and_show.ensures.stops

pub returns-in_err-write_and_show-clause-writes : goal.returns-in_err-write_and_show-clause-writes
returns-in_err-write_and_show-clause-writes g c =
    stops_at c.from_residual-in_err-write_and_show.result _ c.from_residual-in_err-write_and_show.ensures.1 c.in_err-write_and_show.ensures.writes

pub returns-clause-writes : goal.returns-clause-writes
returns-clause-writes g c = c.in_ok-write_and_show.ensures.writes
