use Rattle.std.proofs.Common.{◌∙◌, ap}
use Rattle.bp_log.specs.Texts.{line_text}
use Rattle.bp_log.specs.declared.trace.Line.TheVariants as line
use Rattle.bp_log.specs.declared.verdict.Verdict.{Verdict}
use Rattle.bp_replay.proofs.VerdictLines.{begins, behind}
use Rattle.bp_replay.proofs.texts.verdict_text_of.Goals as goal

pub unreachable-requires : goal.unreachable-requires
unreachable-requires c =
    begins c.args.verdict.now c.as_str.result.now
    (c.as_str.ensures ∙ c.in_ok-line.ensures ∙ ap (λ (v : Verdict). line_text (line.Verdict v)) c.in_ok-copy.ensures)
    c.in-None.ensures.cases

pub returns : goal.returns
returns c =
    c.new.ensures ∙ c.in_ok-to_string-in-Some.ensures.ok
    ∙ behind c.args.verdict.now c.as_str.result.now c.in-Some.said.now
    (c.as_str.ensures ∙ c.in_ok-line.ensures ∙ ap (λ (v : Verdict). line_text (line.Verdict v)) c.in_ok-copy.ensures)
    c.in-Some.ensures.cases
