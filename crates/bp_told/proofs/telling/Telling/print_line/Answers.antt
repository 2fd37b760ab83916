use Rattle.std.proofs.Common.{[], ◌++◌, ap, sym, subst, append-nil}
use Rattle.std.proofs.lemmas.Result.{err_from_is_err_and}
use Rattle.bp_log.specs.Texts.{whole_line}
use Rattle.bp_told.specs.Logging.{LogShows, LogShowsFront}
use Rattle.bp_told.specs.Pages.{ShowsFront}
use Rattle.bp_told.specs.Told.{Waiting}
use Rattle.bp_told.proofs.Pieces.{shows_page, shows_part}
use Rattle.bp_told.proofs.Logging.{log_shows_page, log_stop}
use Rattle.bp_told.proofs.telling.Telling.print_line.Goals as goal

pub returns-in_err-add_line-clause-front : goal.returns-in_err-add_line-clause-front
returns-in_err-add_line-clause-front g c =
    let p = err_from_is_err_and c.from_residual.result c.from_residual.ensures.1 in
    rw p.1 (subst (λ (w : Waiting). ShowsFront (g.K.Sink.written c.args.out.now) (w.lines ++ whole_line c.args.line.now) c.add_line.new.self (g.K.Sink.written c.args.out.now)) c.self.view_is
    (shows_part _ _ c.self.inside.lines c.self.inside.lines _ [] c.add_line.new.self _
    (ap (λ x. c.self.inside.lines ++ x) (sym (append-nil _))) (shows_page (g.K.Sink.written c.args.out.now) c.self.inside.lines) c.in_err-add_line.ensures.front))

pub returns-in_err-add_line-clause-log_front : goal.returns-in_err-add_line-clause-log_front
returns-in_err-add_line-clause-log_front g c =
    let p = err_from_is_err_and c.from_residual.result c.from_residual.ensures.1 in
    rw p.1 (subst (λ (w : Waiting). LogShowsFront g.L.Sink.written c.args.log.now w.records c.self.inside.records c.args.log.now) c.self.view_is
    (log_stop g.L.Sink.written _ _ _ _ (log_shows_page g.L.Sink.written c.args.log.now c.self.inside.records)))

pub returns-in_err-add_line-clause-whole : goal.returns-in_err-add_line-clause-whole
returns-in_err-add_line-clause-whole g c = λ _.
    subst (λ (w : Waiting). LogShows g.L.Sink.written c.args.log.now w.records c.self.inside.records c.args.log.now) c.self.view_is (log_shows_page g.L.Sink.written c.args.log.now c.self.inside.records)
