use Rattle.std.proofs.Common.{◌≡◌, false, rules}
use Rattle.bp_session.specs.inner.Outlets.{given_to}
use Rattle.bp_session.specs.inner.Serving.{StopsTurning}
use Rattle.bp_session.proofs.Causes.{writes_none, stops_at}
use Rattle.bp_session.proofs.Rounds.{from_err, told_none, told_all}
use Rattle.bp_session.proofs.serving.wait_where.Goals as goal

pub returns-then-not-waits-clause-told : goal.returns-then-not-waits-clause-told
returns-then-not-waits-clause-told g c =
    let no : c.args.waits ≡ false = search rules in
    told_none g.L.Sink.written (given_to g.K.Sink c.args.outlets.now) c.args.telling.now c.args.waits no

pub returns-then-not-waits-clause-writes : goal.returns-then-not-waits-clause-writes
returns-then-not-waits-clause-writes g c = writes_none c.args.outlets.now

pub returns-in_err-write_and_show-clause-stops : goal.returns-in_err-write_and_show-clause-stops
returns-in_err-write_and_show-clause-stops g c =
    from_err c.from_residual.result _ (StopsTurning g.L.Sink.written (given_to g.K.Sink c.args.outlets.now) c.args.telling.now (given_to g.K.Sink c.write_and_show.new.outlets) c.write_and_show.new.telling) c.from_residual.ensures.1 c.in_err-write_and_show.ensures.stops

pub returns-in_err-write_and_show-clause-writes : goal.returns-in_err-write_and_show-clause-writes
returns-in_err-write_and_show-clause-writes g c =
    stops_at c.from_residual.result _ c.from_residual.ensures.1 c.in_err-write_and_show.ensures.writes

pub returns-clause-told : goal.returns-clause-told
returns-clause-told g c =
    told_all g.L.Sink.written (given_to g.K.Sink c.args.outlets.now) (given_to g.K.Sink c.write_and_show.new.outlets) c.args.telling.now c.write_and_show.new.telling c.args.waits c.in_ok-write_and_show.ensures.all

pub returns-clause-writes : goal.returns-clause-writes
returns-clause-writes g c = c.in_ok-write_and_show.ensures.writes
