use Rattle.std.proofs.Common.{◌∙◌, ◌++◌, List, ℕ, ap, string_bytes}
use Rattle.bp_explain.specs.Explained.{heading}
use Rattle.bp_answers.proofs.ReasonLemmas.{asked_told}
use Rattle.bp_answers.proofs.reasons.asked_text.Goals as goal

pub returns-clause-told : goal.returns-clause-told
returns-clause-told c =
    let records = c.args.records.now in
    let program = c.args.program in
    let options = c.args.options in
    let w = c.in_ok-arbiter.ensures.leads in
    asked_told program options records c.args.event.now c.in_ok-arbiter.arbiter w (string_bytes c.write_heading.new.text) (string_bytes c.write_asked_here.new.text) (string_bytes c.write_end.new.text)
    (c.in_ok-write_heading.ensures ∙ ap (λ (x : List ℕ). x ++ heading records) c.new-text.ensures.bytes) c.in_ok-write_asked_here.ensures.written (c.in_ok-write_end.ensures.ended program options w)
