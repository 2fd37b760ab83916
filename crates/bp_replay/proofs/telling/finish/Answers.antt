use Rattle.std.proofs.Common.{◌≡◌, ◌++◌, [], ◌∷◌, List, Err, rules, subst, sym}
use Rattle.std.proofs.lemmas.Result.{err_from_is_err_and}
use Rattle.bp_log.specs.Texts.{lines_text}
use Rattle.bp_log.specs.declared.trace.Line.{Line}
use Rattle.bp_log.specs.declared.trace.Line.TheVariants as trace
use Rattle.bp_told.specs.Pages.{Shows}
use Rattle.bp_replay.specs.declared.fault.ReplayFault.{ReplayFault}
use Rattle.bp_replay.specs.Following.{Shown}
use Rattle.bp_replay.proofs.Loop.{shown_log}
use Rattle.bp_replay.proofs.telling.finish.Goals as goal

pub returns-in_err-next-clause-shown : goal.returns-in_err-next-clause-shown
returns-in_err-next-clause-shown g c =
    let p = err_from_is_err_and c.from_residual-in_err-next.result c.from_residual-in_err-next.ensures.1 in
    let lines : c.as_slice.result.now ≡ trace.Verdict c.args.verdict ∷ [] = search rules in
    let shows = subst (λ (ls : List Line). Shows (g.K.Sink.written c.args.out.now) (c.args.page.now ++ lines_text ls) c.print.new.self (g.K.Sink.written c.print.new.out)) lines c.in_ok-print.ensures.shows in
    rw p.1
    (subst (λ (e : ReplayFault). Shown (Err e) (g.K.Sink.written c.args.out.now) (c.args.page.now ++ lines_text (trace.Verdict c.args.verdict ∷ [])) c.print.new.self (g.K.Sink.written c.print.new.out)) (sym p.2)
    (shown_log _ _ _ _ _ shows))
