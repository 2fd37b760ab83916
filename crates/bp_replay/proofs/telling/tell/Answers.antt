use Rattle.std.proofs.Common.{◌≡◌, ◌∙◌, ◌+◌, ◌++◌, ◌∷◌, [], arith, rules, ap, sym, subst, refl, Some, None}
use Rattle.std.specs.Prelude.{Result}
use Rattle.std.proofs.lemmas.Result.{err_from_is_err_and}
use Rattle.bp_log.specs.Records.{verdict_of}
use Rattle.bp_log.specs.Texts.{lines_text}
use Rattle.bp_log.specs.declared.trace.Line.TheVariants as trace
use Rattle.bp_log.specs.declared.verdict.Verdict.{Verdict}
use Rattle.bp_reader.specs.declared.fault.LogFault.TheVariants as log
use Rattle.bp_replay.specs.declared.fault.ReplayFault.{ReplayFault}
use Rattle.bp_replay.specs.Following.{first_of, Makes, Shown}
use Rattle.bp_replay.proofs.Loop.{along_first, along_on, along_unwritten, along_memory, along_refused, along_cut, along_parted, along_said, along_finished, along_whole, tells_error, found_told, stage_told, never_log, never_write}
use Rattle.bp_replay.proofs.telling.tell.Goals as goal

pub loop-reader-init : goal.loop-reader-init
loop-reader-init g c =
    record {
      along = along_first c.args.reader.now.stage.version c.args.arbiter.now c.args.reader.now c.args.page.now (g.K.Sink.written c.args.out.now) c.requires.first c.requires.fresh c.requires.stage c.requires.empty;
      read_counts = omega arith;
      write_counts = omega arith;
      named = refl;
    }

pub returns-in_err-show-clause-tells : goal.returns-in_err-show-clause-tells
returns-in_err-show-clause-tells g c =
    let p = err_from_is_err_and c.from_residual.result c.from_residual.ensures.1 in
    let a = c.loop-reader.invariant.along in
    tells_error (first_of c.args.reader.now.stage.version c.args.arbiter.now) c.args.reader.now.left (g.K.Sink.written c.args.out.now) c.show.new.page (g.K.Sink.written c.show.new.out) p.1 p.2
    (along_unwritten a _ (c.in_err-show.ensures.front a.course a.taken a.way))

pub returns-in_err-found-clause-tells : goal.returns-in_err-found-clause-tells
returns-in_err-found-clause-tells g c =
    let p = err_from_is_err_and c.from_residual-in_err-found.result c.from_residual-in_err-found.ensures.1 in
    let a = c.loop-reader.invariant.along in
    tells_error (first_of c.args.reader.now.stage.version c.args.arbiter.now) c.args.reader.now.left (g.K.Sink.written c.args.out.now) c.show.new.page (g.K.Sink.written c.show.new.out) p.1 p.2
    (along_refused a _ (c.in_err-found.ensures.tells a.fresh) (c.in_ok-show.ensures.shows a.course a.taken a.way))

pub returns-in_err-found-clause-failed : goal.returns-in_err-found-clause-failed
returns-in_err-found-clause-failed g c =
    let a = c.loop-reader.invariant.along in
    λ e. along_cut a c.next.new.self.left (c.in_ok-show.ensures.shows a.course a.taken a.way) (c.in_err-found.ensures.failed a.fresh (search rules))

pub follow-requires : goal.follow-requires
follow-requires g c = let a = c.loop-reader.invariant.along in (a.course, c.in_ok-show.ensures.there a.course a.taken a.way)

pub returns-in_err-follow-clause-tells : goal.returns-in_err-follow-clause-tells
returns-in_err-follow-clause-tells g c =
    let p = err_from_is_err_and c.from_residual-in_err-follow.result c.from_residual-in_err-follow.ensures.1 in
    let a = c.loop-reader.invariant.along in
    tells_error (first_of c.args.reader.now.stage.version c.args.arbiter.now) c.args.reader.now.left (g.K.Sink.written c.args.out.now) c.show.new.page (g.K.Sink.written c.show.new.out) p.1 p.2
    (along_parted a c.next.new.self.left c.in-Some.found (c.loop-reader.number + 1) c.follow.new.arbiter _ (found_told c.loop-reader.reader.left c.next.new.self.left c.loop-reader.reader.stage c.in-Some.is (c.in_ok-found.ensures.tells a.fresh)) refl
    (c.in_err-follow.ensures.followed a.course (c.in_ok-show.ensures.there a.course a.taken a.way)) (c.in_ok-show.ensures.shows a.course a.taken a.way))

pub returns-in_err-follow-clause-read : goal.returns-in_err-follow-clause-read
returns-in_err-follow-clause-read g c =
    let p = err_from_is_err_and c.from_residual-in_err-follow.result c.from_residual-in_err-follow.ensures.1 in
    let a = c.loop-reader.invariant.along in
    let f = c.in_err-follow.ensures.followed a.course (c.in_ok-show.ensures.there a.course a.taken a.way) in
    λ h. absurd (never_log a.course c.in-Some.found (c.loop-reader.number + 1) c.follow.new.arbiter log.Read f p.1 p.2 h)

pub returns-in_err-follow-clause-failed : goal.returns-in_err-follow-clause-failed
returns-in_err-follow-clause-failed g c =
    let p = err_from_is_err_and c.from_residual-in_err-follow.result c.from_residual-in_err-follow.ensures.1 in
    let a = c.loop-reader.invariant.along in
    let f = c.in_err-follow.ensures.followed a.course (c.in_ok-show.ensures.there a.course a.taken a.way) in
    λ h. absurd (never_log a.course c.in-Some.found (c.loop-reader.number + 1) c.follow.new.arbiter log.Read f p.1 p.2 h)

pub returns-in_err-follow-clause-empty : goal.returns-in_err-follow-clause-empty
returns-in_err-follow-clause-empty g c =
    let p = err_from_is_err_and c.from_residual-in_err-follow.result c.from_residual-in_err-follow.ensures.1 in
    let a = c.loop-reader.invariant.along in
    let f = c.in_err-follow.ensures.followed a.course (c.in_ok-show.ensures.there a.course a.taken a.way) in
    λ h. absurd (never_log a.course c.in-Some.found (c.loop-reader.number + 1) c.follow.new.arbiter log.Read f p.1 p.2 h)

pub returns-in_err-follow-clause-write : goal.returns-in_err-follow-clause-write
returns-in_err-follow-clause-write g c =
    let p = err_from_is_err_and c.from_residual-in_err-follow.result c.from_residual-in_err-follow.ensures.1 in
    let a = c.loop-reader.invariant.along in
    let f = c.in_err-follow.ensures.followed a.course (c.in_ok-show.ensures.there a.course a.taken a.way) in
    λ h. absurd (never_write a.course c.in-Some.found (c.loop-reader.number + 1) c.follow.new.arbiter f p.1 p.2 h)

pub returns-in_err-verdict-clause-tells : goal.returns-in_err-verdict-clause-tells
returns-in_err-verdict-clause-tells g c =
    let p = err_from_is_err_and c.from_residual-in_err-verdict.result c.from_residual-in_err-verdict.ensures.1 in
    let a = c.loop-reader.invariant.along in
    tells_error (first_of c.args.reader.now.stage.version c.args.arbiter.now) c.args.reader.now.left (g.K.Sink.written c.args.out.now) c.show.new.page (g.K.Sink.written c.show.new.out) p.1 p.2
    (along_memory a (c.in_ok-show.ensures.shows a.course a.taken a.way))

pub finish-requires-clause-ended : goal.finish-requires-clause-ended
finish-requires-clause-ended g c =
    let a = c.loop-reader.invariant.along in
    let makes : Makes a.course c.in-Some.found c.follow.new.arbiter = c.in_ok-follow.ensures.followed a.course (c.in_ok-show.ensures.there a.course a.taken a.way) in
    let said = along_said a c.in-Some.found c.follow.new.arbiter c.next.new.self c.in-Some-verdict.verdict.now makes (sym c.in-Some-verdict.ensures.recorded)
    (found_told c.loop-reader.reader.left c.next.new.self.left c.loop-reader.reader.stage c.in-Some.is (c.in_ok-found.ensures.tells a.fresh)) (stage_told c.loop-reader.reader.stage c.in-Some.is (c.in_ok-found.ensures.stage a.fresh)) in
    said.ended

pub returns-in-Some-verdict-clause-tells : goal.returns-in-Some-verdict-clause-tells
returns-in-Some-verdict-clause-tells g c =
    let a = c.loop-reader.invariant.along in
    let v = c.in_ok-verdict.verdict in
    let makes : Makes a.course c.in-Some.found c.follow.new.arbiter = c.in_ok-follow.ensures.followed a.course (c.in_ok-show.ensures.there a.course a.taken a.way) in
    let recorded : verdict_of c.follow.new.arbiter.records ≡ Some v = sym (ap (λ (x : Verdict). Some x) c.in_ok-verdict.ensures ∙ c.in-Some-verdict.ensures.recorded) in
    let said = along_said a c.in-Some.found c.follow.new.arbiter c.next.new.self v makes recorded
    (found_told c.loop-reader.reader.left c.next.new.self.left c.loop-reader.reader.stage c.in-Some.is (c.in_ok-found.ensures.tells a.fresh)) (stage_told c.loop-reader.reader.stage c.in-Some.is (c.in_ok-found.ensures.stage a.fresh)) in
    along_finished a c.finish.new.page (g.K.Sink.written c.finish.new.out) c.finish.result said c.finish.ensures.finishes (c.in_ok-show.ensures.shows a.course a.taken a.way) c.finish.ensures.shown

pub returns-in-Some-verdict-clause-failed : goal.returns-in-Some-verdict-clause-failed
returns-in-Some-verdict-clause-failed g c =
    let a = c.loop-reader.invariant.along in
    let v = c.in_ok-verdict.verdict in
    let makes : Makes a.course c.in-Some.found c.follow.new.arbiter = c.in_ok-follow.ensures.followed a.course (c.in_ok-show.ensures.there a.course a.taken a.way) in
    let recorded : verdict_of c.follow.new.arbiter.records ≡ Some v = sym (ap (λ (x : Verdict). Some x) c.in_ok-verdict.ensures ∙ c.in-Some-verdict.ensures.recorded) in
    let said = along_said a c.in-Some.found c.follow.new.arbiter c.next.new.self v makes recorded
    (found_told c.loop-reader.reader.left c.next.new.self.left c.loop-reader.reader.stage c.in-Some.is (c.in_ok-found.ensures.tells a.fresh)) (stage_told c.loop-reader.reader.stage c.in-Some.is (c.in_ok-found.ensures.stage a.fresh)) in
    λ h.
    along_whole a c.finish.new.reader.left said (c.in_ok-show.ensures.shows a.course a.taken a.way)
    (subst (λ (x : Result Verdict ReplayFault). Shown x (g.K.Sink.written c.show.new.out) (c.show.new.page ++ lines_text (trace.Verdict v ∷ [])) c.finish.new.page (g.K.Sink.written c.finish.new.out)) h c.finish.ensures.shown)
    (c.finish.ensures.failed h)

pub loop-reader-preserved : goal.loop-reader-preserved
loop-reader-preserved g c =
    let a = c.loop-reader.invariant.along in
    let makes : Makes a.course c.in-Some.found c.follow.new.arbiter = c.in_ok-follow.ensures.followed a.course (c.in_ok-show.ensures.there a.course a.taken a.way) in
    let none : verdict_of c.follow.new.arbiter.records ≡ None = search rules in
    let reads = c.loop-reader.invariant.read_counts in
    let writes = c.loop-reader.invariant.write_counts in
    let more_reads = c.next.ensures.counts in
    let more_writes = c.show.ensures.counts in
    record {
      along = along_on (first_of c.args.reader.now.stage.version c.args.arbiter.now) c.args.reader.now.left (g.K.Sink.written c.args.out.now) c.loop-reader.reader c.next.new.self c.loop-reader.arbiter c.follow.new.arbiter c.loop-reader.number (c.loop-reader.number + 1)
          c.loop-reader.page c.show.new.page (g.K.Sink.written c.loop-reader.out) (g.K.Sink.written c.show.new.out) c.in-Some.found a (c.in_ok-show.ensures.shows a.course a.taken a.way) c.in_ok-found.ensures.kept
          (found_told c.loop-reader.reader.left c.next.new.self.left c.loop-reader.reader.stage c.in-Some.is (c.in_ok-found.ensures.tells a.fresh)) (stage_told c.loop-reader.reader.stage c.in-Some.is (c.in_ok-found.ensures.stage a.fresh)) makes none refl;
      read_counts = omega (arith, reads, more_reads);
      write_counts = omega (arith, writes, more_writes);
      named = c.show.ensures.named ∙ c.loop-reader.invariant.named;
    }
