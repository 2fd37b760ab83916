use Rattle.std.proofs.Common.{◌∙◌, ◌++◌, List, ℕ, ap, string_bytes, subst, sym}
use Rattle.bp_arbiter.specs.Arbiters.{PlainArbiter}
use Rattle.bp_explain.specs.Explained.{before_end, heading}
use Rattle.bp_answers.specs.inner.Led.{LeadsTo}
use Rattle.bp_answers.proofs.States.{state_told}
use Rattle.bp_answers.proofs.saying.state_text.Goals as goal

pub returns-clause-told : goal.returns-clause-told
returns-clause-told c =
    let records = c.args.records.now in
    let program = c.args.program in
    let options = c.args.options in
    let w = c.in_ok-arbiter.ensures.leads in
    state_told program options records c.in_ok-arbiter.arbiter w (string_bytes c.write_heading.new.text) (string_bytes c.write_if_at_rest.new.text) (string_bytes c.write_end.new.text)
    (c.in_ok-write_heading.ensures ∙ ap (λ (x : List ℕ). x ++ heading records) c.new-text.ensures.bytes) (c.in_ok-write_if_at_rest.ensures.written w.course w.there (w.kept ∙ sym w.program_is))
    (c.in_ok-write_end.ensures.ended program options (subst (λ (x : PlainArbiter). LeadsTo program options (before_end records) x) (sym c.write_if_at_rest.ensures.same) w))
