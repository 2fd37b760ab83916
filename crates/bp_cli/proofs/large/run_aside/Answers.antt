use Rattle.std.proofs.Common.{None, ◌∙◌, ap, length}
use Rattle.bp_log.specs.Header.{PlainHeader}
use Rattle.bp_log.specs.Logs.{header_text}
use Rattle.bp_log.specs.declared.version.Version.TheVariants.{Second}
use Rattle.bp_cli.proofs.Measured.{one_text, aside_begins, aside_one, aside_text}
use Rattle.bp_cli.proofs.large.run_aside.Goals as goal

pub returns-in_err-sink-clause-story : goal.returns-in_err-sink-clause-story
returns-in_err-sink-clause-story g c = one_text c.args.program

pub returns-clause-begins : goal.returns-clause-begins
returns-clause-begins g c =
    aside_begins c.in-Some.header.options (ap (λ (h : PlainHeader). h.options) c.in-Some.ensures.1 ∙ c.defaults.ensures) c.args.program c.run-report.result.0.records c.run-report.ensures.story

pub returns-clause-one_run : goal.returns-clause-one_run
returns-clause-one_run g c =
    let report = c.run-report.result.0 in
    aside_one c.in-Some.header.options (ap (λ (h : PlainHeader). h.options) c.in-Some.ensures.1 ∙ c.defaults.ensures) c.args.program report.records
    (header_text Second c.in-Some.header) c.in_ok-sink.sink c.run-report.new.out None c.run-report.new.log c.new-inputs.result.items c.run-report.result.1.items report.end (ap (λ xs. length xs) c.new-inputs.ensures.items) c.run-report.ensures.story c.run-report.ensures.ends

pub returns-clause-story : goal.returns-clause-story
returns-clause-story g c = one_text c.args.program

pub returns-clause-text : goal.returns-clause-text
returns-clause-text g c =
    let report = c.run-report.result.0 in
    aside_text c.in-Some.header.options (ap (λ (h : PlainHeader). h.options) c.in-Some.ensures.1 ∙ c.defaults.ensures) c.args.program report.records
    (header_text Second c.in-Some.header) c.in_ok-sink.sink c.run-report.new.out None c.run-report.new.log c.new-inputs.result.items c.run-report.result.1.items report.end c.run-report.ensures.story (ap (λ s. s.written) c.in_ok-sink.ensures) c.run-report.ensures.ends
