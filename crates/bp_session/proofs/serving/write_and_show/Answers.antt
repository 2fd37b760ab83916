use Rattle.std.proofs.Common.{refl}
use Rattle.bp_told.specs.declared.fault.RunFault.TheVariants.{Memory}
use Rattle.bp_session.specs.declared.stop.Stop.TheVariants as stop
use Rattle.bp_session.specs.inner.Outlets.{given_to}
use Rattle.bp_session.specs.inner.Serving.{StopsTurning}
use Rattle.bp_session.proofs.Causes.{writes_lack, stops_at}
use Rattle.bp_session.proofs.Tells.{write_still}
use Rattle.bp_session.proofs.Rounds.{from_err, untold_kept}
use Rattle.bp_session.proofs.serving.write_and_show.Goals as goal

pub returns-in_err-write-clause-stops : goal.returns-in_err-write-clause-stops
returns-in_err-write-clause-stops g c =
    from_err c.from_residual.result _ (StopsTurning g.L.Sink.written (given_to g.K.Sink c.args.outlets.now) c.args.telling.now (given_to g.K.Sink c.write.new.outlets) c.write.new.telling) c.from_residual.ensures.1 c.in_err-write.ensures.stops

pub returns-in_err-write-clause-writes : goal.returns-in_err-write-clause-writes
returns-in_err-write-clause-writes g c =
    stops_at c.from_residual.result _ c.from_residual.ensures.1 c.in_err-write.ensures.writes

pub returns-in_err-show-clause-stops : goal.returns-in_err-show-clause-stops
returns-in_err-show-clause-stops g c =
    from_err c.from_residual-in_err-show.result (stop.Broken Memory) (StopsTurning g.L.Sink.written (given_to g.K.Sink c.args.outlets.now) c.args.telling.now (given_to g.K.Sink c.write.new.outlets) c.write.new.telling) c.from_residual-in_err-show.ensures.1 (refl, write_still g.L.Sink.written (given_to g.K.Sink c.args.outlets.now) (given_to g.K.Sink c.write.new.outlets) c.args.telling.now c.write.new.telling c.in_ok-write.ensures.all)

pub returns-in_err-show-clause-writes : goal.returns-in_err-show-clause-writes
returns-in_err-show-clause-writes g c =
    stops_at c.from_residual-in_err-show.result (stop.Broken Memory) c.from_residual-in_err-show.ensures.1 (writes_lack c.in_ok-write.ensures.writes)

pub returns-clause-writes : goal.returns-clause-writes
returns-clause-writes g c = c.in_ok-write.ensures.writes

pub of-requires-clause-untold : goal.of-requires-clause-untold
of-requires-clause-untold g c = untold_kept c.args.core.now c.args.telling.now c.write.new.telling c.write.ensures.kept c.requires.untold

pub returns-in_err-write-clause-untold : goal.returns-in_err-write-clause-untold
returns-in_err-write-clause-untold g c = untold_kept c.args.core.now c.args.telling.now c.write.new.telling c.write.ensures.kept c.requires.untold

pub returns-in_err-show-clause-untold : goal.returns-in_err-show-clause-untold
returns-in_err-show-clause-untold g c = untold_kept c.args.core.now c.args.telling.now c.write.new.telling c.write.ensures.kept c.requires.untold

pub returns-clause-untold : goal.returns-clause-untold
returns-clause-untold g c = untold_kept c.args.core.now c.args.telling.now c.write.new.telling c.write.ensures.kept c.requires.untold
