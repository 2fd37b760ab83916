use Rattle.std.proofs.Common.{[], ◌≡◌, ap, sym, append-nil}
use Rattle.std.proofs.lemmas.Result.{err_from_is_err_and}
use Rattle.bp_told.proofs.Pieces.{shows_stop, shows_page}
use Rattle.bp_told.proofs.telling.Telling.write.Goals as goal

pub returns-in_err-write_records-clause-front : goal.returns-in_err-write_records-clause-front
returns-in_err-write_records-clause-front g c =
    let p = err_from_is_err_and c.from_residual.result c.from_residual.ensures.1 in
    let same : c.write_records.new.self.lines ≡ c.args.self.now.lines = ap (λ t. t.lines) c.write_records.ensures.rest in
    rw (p.1, same) (shows_stop (g.K.Sink.written c.args.out.now) (g.K.Sink.written c.args.out.now) c.args.self.now.lines c.args.self.now.lines [] c.args.self.now.lines (sym (append-nil c.args.self.now.lines)) (shows_page (g.K.Sink.written c.args.out.now) c.args.self.now.lines))
