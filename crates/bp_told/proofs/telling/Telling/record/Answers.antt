use Rattle.std.proofs.Common.{List, [], ◌++◌, refl, ap, sym, append-nil, subst, drop, ℕ, Option, Some, None, ◌≡◌, ◌∙◌, false}
use Rattle.std.specs.Option.{is_some}
use Rattle.std.proofs.lemmas.List.{take_rest}
use Rattle.std.proofs.lemmas.Result.{err_from_is_err_and}
use Rattle.bp_base.specs.Pieces.{AppendsFront}
use Rattle.bp_log.specs.declared.record.Record.{Record}
use Rattle.bp_log.specs.Logs.{records_text}
use Rattle.bp_told.specs.Logging.{LogShows, LogShowsFront, LogWaits}
use Rattle.bp_told.specs.Told.{Waiting}
use Rattle.bp_told.proofs.Logging.{log_shows_page, log_part, log_put, log_then, log_front_then, log_waits_more}
use Rattle.bp_told.proofs.Pieces.{put}
use Rattle.bp_told.proofs.telling.Telling.record.Goals as goal
use Rattle.bp_told.proofs.telling.Telling.record.Goals.{then-is_some+in_ok-add_records, else-is_some}

pub returns-in_err-add_records-clause-front : goal.returns-in_err-add_records-clause-front
returns-in_err-add_records-clause-front g c =
    let p = err_from_is_err_and c.from_residual.result c.from_residual.ensures.1 in
    rw p.1 (subst (λ (w : Waiting). LogShowsFront g.L.Sink.written c.args.log.now (w.records ++ records_text (drop w.kept c.args.records.now)) c.add_records.new.self c.args.log.now) c.self.view_is
    (log_part g.L.Sink.written _ _ c.self.inside.records c.self.inside.records _ [] c.add_records.new.self _
    (ap (λ (x : List ℕ). c.self.inside.records ++ x) (sym (append-nil _))) (log_shows_page g.L.Sink.written _ c.self.inside.records)
    (subst (λ (rs : List Record). AppendsFront (Some c.self.inside.records) (records_text rs) (Some c.add_records.new.self)) (take_rest c.args.records.now c.self.inside.kept) c.in_err-add_records.ensures.front)))

pub returns-in_err-add_records-clause-waits : goal.returns-in_err-add_records-clause-waits
returns-in_err-add_records-clause-waits g c = λ _.
    let f = c.in_err-add_records.ensures.front in
    subst (λ (w : Waiting). LogWaits g.L.Sink.written c.args.log.now w.records c.add_records.new.self c.args.log.now) c.self.view_is
    (log_waits_more g.L.Sink.written _ _ c.self.inside.records f.0 c.add_records.new.self
    (log_put g.L.Sink.written _ _ c.self.inside.records c.self.inside.records f.0 c.add_records.new.self _ (put c.self.inside.records f.0 c.add_records.new.self f.3) refl
    (log_shows_page g.L.Sink.written c.args.log.now c.self.inside.records)))

no_log : {L : Type 0} (written : L → Option (List ℕ)) (a : Option L) (text page : List ℕ) → false ≡ is_some a → LogShows written a text page a
no_log written None text page e = tt
no_log written (Some x) text page e = absurd (let f : ⊥ = cc in f)

-- what waits for the log now
base : (g : _) (c : goal.After-write_records g) → LogShows g.L.Sink.written c.args.log.now (c.args.self.now.records ++ records_text (drop c.args.self.now.kept c.args.records.now)) c.if-is_some.self-inside.records c.args.log.now
base g c = elim c.if-is_some.branch [
  | then-is_some+in_ok-add_records w ↦
      let page = c.self.inside.records in
      let more = records_text (drop c.self.inside.kept c.args.records.now) in
      let at : c.if-is_some.self-inside.records ≡ page ++ more = ap (λ s. s.records) w.self-inside-is ∙ w.in_ok-add_records.ensures.added
      ∙ ap (λ (rs : List Record). page ++ records_text rs) (take_rest c.args.records.now c.self.inside.kept) in
      subst (λ (x : Waiting). LogShows g.L.Sink.written c.args.log.now (x.records ++ records_text (drop x.kept c.args.records.now)) c.if-is_some.self-inside.records c.args.log.now) c.self.view_is
      (log_put g.L.Sink.written c.args.log.now c.args.log.now page page more c.if-is_some.self-inside.records (page ++ more) at refl (log_shows_page g.L.Sink.written c.args.log.now page))
  | else-is_some w ↦ no_log g.L.Sink.written c.args.log.now _ _ w.if-is_some.ensures
]

pub returns-then-is_full-clause-shows : goal.returns-then-is_full-clause-shows
returns-then-is_full-clause-shows g c = log_then g.L.Sink.written c.write_records.result _ c.args.log.now _ _ c.if-is_some.self-inside.records _ (base g c) c.write_records.ensures.shows

pub returns-then-is_full-clause-front : goal.returns-then-is_full-clause-front
returns-then-is_full-clause-front g c = log_front_then g.L.Sink.written c.write_records.result _ c.args.log.now _ _ c.if-is_some.self-inside.records _ (base g c) c.write_records.ensures.front
