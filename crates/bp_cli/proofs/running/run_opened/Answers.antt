use Rattle.std.proofs.Common.{◌∙◌, List, ℕ, Option, ap, inl, inr, sym, subst}
use Rattle.bp_base.specs.Counts.{Rose}
use Rattle.bp_base.specs.Worlds.{Holdings}
use Rattle.bp_log.specs.Header.{PlainHeader}
use Rattle.bp_log.specs.Logs.{header_text}
use Rattle.bp_log.specs.declared.version.Version.TheVariants.{Second}
use Rattle.bp_code.specs.Code.{code_of, text_of}
use Rattle.bp_told.specs.Order.{PrintsBehind}
use Rattle.bp_session.specs.Reports.{EndsAs}
use Rattle.bp_cli.specs.declared.conclusion.Conclusion.{Conclusion}
use Rattle.bp_cli.specs.Endings.{IsCaused}
use Rattle.bp_cli.specs.inner.Opening.{AreOpened, IsLogMade, IsLogHeld}
use Rattle.bp_cli.specs.Outside.{outside}
use Rattle.bp_cli.proofs.Runs.{ran, run_caused, input_failed, log_failed, opened_many}
use Rattle.bp_cli.proofs.running.run_opened.Goals as goal

pub run-report-requires-after_bounds : goal.run-report-requires-after_bounds
run-report-requires-after_bounds g c κs within =
    opened_many g.W.Input.Source.left g.W.Input.Source.faults _ c.args.asked.now.injectors c.args.inputs.items c.requires.opened
    ∙ (sym c.requires.counted ∙ sym (ap (λ (h : PlainHeader). h.options.injectors) c.in-Some.ensures.1))

pub returns-clause-ran : goal.returns-clause-ran
returns-clause-ran g c = λ before same.
    let seen = outside g.W.World.holds g.W.World.asked g.W.World.read_faults g.W.World.write_faults g.K.Sink.written g.K.Sink.faults in
    let left = g.W.Input.Source.left in
    let faults = g.W.Input.Source.faults in
    let written = g.W.Output.Sink.written in
    let made_as = g.W.Output.Sink.made_as in
    let log_faults = g.W.Output.Sink.faults in
    let print_faults = g.K.Sink.faults in
    let asked = c.args.asked.now in
    let header = c.in-Some.header in
    let program = c.args.loaded.program in
    let report = c.run-report.result.0 in
    let back = c.run-report.result.1.items in
    let first = c.args.log in
    let last = c.run-report.new.log in
    let after = seen c.close_log.new.world c.run-report.new.out in
    ran written made_as log_faults print_faults left faults asked c.args.loaded.bytes.items program report.records c.args.inputs.items back c.args.out.now c.run-report.new.out first last before after header report.end c.of.result
    c.in-Some.ensures.1 c.of.ensures
    (record {
      is_header = c.header_keeps.ensures;
      is_program = c.requires.program;
      are_records = c.records_keep.ensures;
      counted = c.requires.counted;
      opened = subst (λ (h : Option Holdings). AreOpened left faults h asked.injectors c.args.inputs.items) same.1 c.requires.opened;
      made = subst (λ (h : Option Holdings). IsLogMade written made_as log_faults h asked.log first) same.1 c.requires.made;
      story = c.run-report.ensures.story;
      heard = c.run-report.ensures.heard;
      ends = subst (λ (p : Option (List ℕ)). EndsAs written log_faults print_faults (code_of program header.options) header.options (header_text Second header) c.args.out.now c.run-report.new.out (record { printed = p; log = first }) (record { printed = after.printed; log = last }) left faults c.args.inputs.items back report.records report.end)
          same.0 c.run-report.ensures.ends;
      behind = subst (λ (p : Option (List ℕ)). PrintsBehind written (text_of program header.options) (header_text Second header) report.records p after.printed first last) same.0 c.run-report.ensures.behind;
      held = subst (λ (h : Option Holdings). IsLogHeld written h asked.log last after.holds) (c.close_inputs.ensures.holds ∙ same.1) c.close_log.ensures.held;
    })

pub returns-clause-caused : goal.returns-clause-caused
returns-clause-caused g c =
    let seen = outside g.W.World.holds g.W.World.asked g.W.World.read_faults g.W.World.write_faults g.K.Sink.written g.K.Sink.faults in
    let left = g.W.Input.Source.left in
    let faults = g.W.Input.Source.faults in
    let written = g.W.Output.Sink.written in
    let log_faults = g.W.Output.Sink.faults in
    let before = seen c.args.world.now c.args.out.now in
    let after = seen c.close_log.new.world c.run-report.new.out in
    let report = c.run-report.result.0 in
    let back = c.run-report.result.1.items in
    let closed = c.close_inputs.new.world in
    subst (λ (x : Conclusion). IsCaused before after x) (sym c.of.ensures)
    (run_caused written log_faults g.K.Sink.faults left faults c.args.loaded.program c.in-Some.header report.records c.args.inputs.items back c.args.out.now c.run-report.new.out before.printed after.printed c.args.log c.run-report.new.log before after report.end
    c.run-report.ensures.ends
    (λ j b. subst (λ (n : ℕ). Rose before.read_faults n) (sym c.close_log.ensures.reads)
    (input_failed left faults before.holds c.args.asked.now.injectors c.args.inputs.items back report.records j (Rose before.read_faults (g.W.World.read_faults closed)) c.requires.opened c.run-report.ensures.back.many b c.close_inputs.ensures.risen))
    (λ r. inl r)
    (λ f. inr (subst (λ (n : ℕ). Rose n after.write_faults) c.close_inputs.ensures.writes
    (log_failed written g.W.Output.Sink.made_as log_faults before.holds c.args.asked.now.log c.args.log c.run-report.new.log (Rose (g.W.World.write_faults closed) after.write_faults) c.requires.made f c.close_log.ensures.risen))))
