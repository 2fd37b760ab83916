use Rattle.std.proofs.Common.{refl}
use Rattle.std.proofs.lemmas.Result.{err_from_is_err_and}
use Rattle.bp_told.specs.Told.{given}
use Rattle.bp_told.proofs.Told.{record_broke, tells_on, breaks_off}
use Rattle.bp_told.proofs.telling.Telling.tell.Goals as goal

pub returns-in_err-record-clause-breaks : goal.returns-in_err-record-clause-breaks
returns-in_err-record-clause-breaks g c =
    let p = err_from_is_err_and c.from_residual.result c.from_residual.ensures.1 in
    let same = p.2 in
    rw p.1 (λ text head first lines t e.
    record_broke g.L.Sink.written text head first (given g.K.Sink.written c.args.out.now c.args.log.now) (given g.K.Sink.written c.args.out.now c.record.new.log) c.args.self.now c.record.new.self
    c.args.records.now lines c.args.lines.now p.0 t e refl c.record.ensures.lines c.in_err-record.ensures.front (λ n. c.record.ensures.waits (λ h. n (let k = h in let w = c.in_err-record.was in cc))))

pub returns-clause-tells : goal.returns-clause-tells
returns-clause-tells g c =
    tells_on g.L.Sink.written (given g.K.Sink.written c.args.out.now c.args.log.now) (given g.K.Sink.written c.args.out.now c.record.new.log) (given g.K.Sink.written c.print.new.out c.print.new.log)
    c.args.self.now c.record.new.self c.print.new.self c.args.records.now c.args.lines.now c.print.result refl c.record.ensures.lines c.in_ok-record.ensures.kept c.in_ok-record.ensures.shows
    c.print.ensures.shows c.print.ensures.log_shows c.print.ensures.behind c.print.ensures.kept

pub returns-clause-breaks : goal.returns-clause-breaks
returns-clause-breaks g c =
    breaks_off g.L.Sink.written (given g.K.Sink.written c.args.out.now c.args.log.now) (given g.K.Sink.written c.args.out.now c.record.new.log) (given g.K.Sink.written c.print.new.out c.print.new.log)
    c.args.self.now c.record.new.self c.print.new.self c.args.records.now c.args.lines.now c.print.result refl c.record.ensures.lines c.in_ok-record.ensures.kept c.in_ok-record.ensures.shows
    c.print.ensures.front c.print.ensures.log_front c.print.ensures.behind c.print.ensures.whole
