use Rattle.std.proofs.Common.{arith, rules, ◌∙◌, refl, inl}
use Rattle.std.proofs.lemmas.Result.{err_from_is_err_and}
use Rattle.bp_told.proofs.Pieces.{shows_none, shows_on, front_on, line_on, line_whole}
use Rattle.bp_told.proofs.Logging.{log_shows_page, log_on, log_front_on, log_stop, log_same, stays_on, behind_on}
use Rattle.bp_told.proofs.telling.Telling.print.Goals as goal

pub loop-line-init : goal.loop-line-init
loop-line-init g c = record {
  shows = shows_none (g.K.Sink.written c.args.out.now) c.args.self.now.lines;
  log_shows = log_shows_page g.L.Sink.written c.args.log.now c.args.self.now.records;
  within = λ w. w;
  kept = refl;
  behind = inl refl;
  counts = omega arith;
  stays = log_same g.L.Sink.made_as g.L.Sink.faults c.args.log.now;
}

pub returns-in_err-print_line-clause-front : goal.returns-in_err-print_line-clause-front
returns-in_err-print_line-clause-front g c =
    let p = err_from_is_err_and c.from_residual.result c.from_residual.ensures.1 in
    rw p.1 (front_on _ _ _ _ c.loop-line.self.lines _ _ _ c.print_line.new.self.lines _ refl
    (line_whole c.args.self.now.lines c.args.lines.now c.loop-line.line-index c.line-item.result c.loop-line-test.true c.line-item.is)
    c.loop-line.invariant.shows c.in_err-print_line.ensures.front)

pub returns-in_err-print_line-clause-log_front : goal.returns-in_err-print_line-clause-log_front
returns-in_err-print_line-clause-log_front g c =
    let p = err_from_is_err_and c.from_residual.result c.from_residual.ensures.1 in
    rw p.1 (log_front_on g.L.Sink.written _ c.loop-line.log _ _ _ _ c.loop-line.invariant.log_shows c.in_err-print_line.ensures.log_front)

pub returns-in_err-print_line-clause-behind : goal.returns-in_err-print_line-clause-behind
returns-in_err-print_line-clause-behind g c =
    behind_on g.L.Sink.written _ c.loop-line.log _ _ c.loop-line.self.records c.print_line.new.self.records _ _ _ c.loop-line.invariant.behind c.loop-line.invariant.log_shows c.print_line.ensures.behind c.in_err-print_line.ensures.log_front

pub returns-in_err-print_line-clause-whole : goal.returns-in_err-print_line-clause-whole
returns-in_err-print_line-clause-whole g c = λ n.
    let p = err_from_is_err_and c.from_residual.result c.from_residual.ensures.1 in
    log_on g.L.Sink.written _ c.loop-line.log _ _ c.loop-line.self.records _ c.loop-line.invariant.log_shows (c.print_line.ensures.whole (λ e. n (search rules)))

pub loop-line-preserved : goal.loop-line-preserved
loop-line-preserved g c =
    let counted = c.print_line.ensures.counts in
    let before = c.loop-line.invariant.counts in
    record {
      shows = shows_on _ _ _ _ c.loop-line.self.lines _ _ c.print_line.new.self.lines _ refl
          (line_on c.args.self.now.lines c.args.lines.now c.loop-line.line-index c.line-item.result c.loop-line-test.true c.line-item.is)
          c.loop-line.invariant.shows c.in_ok-print_line.ensures.shows;
      log_shows = log_on g.L.Sink.written _ c.loop-line.log _ _ _ _ c.loop-line.invariant.log_shows c.in_ok-print_line.ensures.log_shows;
      within = λ w. c.in_ok-print_line.ensures.within (c.loop-line.invariant.within w);
      kept = c.print_line.ensures.kept ∙ c.loop-line.invariant.kept;
      behind = behind_on g.L.Sink.written _ c.loop-line.log _ _ c.loop-line.self.records c.print_line.new.self.records _ _ _ c.loop-line.invariant.behind c.loop-line.invariant.log_shows c.print_line.ensures.behind
          (log_stop g.L.Sink.written _ _ _ _ c.in_ok-print_line.ensures.log_shows);
      counts = omega (arith, counted, before);
      stays = stays_on g.L.Sink.made_as g.L.Sink.faults _ c.loop-line.log _ c.loop-line.invariant.stays c.print_line.ensures.stays;
    }
