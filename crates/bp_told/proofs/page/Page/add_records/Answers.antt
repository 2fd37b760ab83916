use Rattle.std.proofs.Common.{◌++◌, ◌∙◌, ap, sym, append_assoc, append-nil, List, ℕ}
use Rattle.std.proofs.lemmas.Result.{err_from_is_err_and}
use Rattle.bp_log.specs.Logs.{whole_record}
use Rattle.bp_told.proofs.Pieces.{records_none, records_more, records_part}
use Rattle.bp_told.proofs.page.Page.add_records.Goals as goal

pub loop-entry-init : goal.loop-entry-init
loop-entry-init c = sym (ap (λ (x : List ℕ). c.args.self.now ++ x) records_none ∙ append-nil c.args.self.now)

pub returns-in_err-add_record-clause-front : goal.returns-in_err-add_record-clause-front
returns-in_err-add_record-clause-front c =
    let p = err_from_is_err_and c.from_residual.result c.from_residual.ensures.1 in
    rw p.1 (records_part c.args.self.now c.loop-entry.self c.add_record.new.self c.args.records.now c.loop-entry.entry-index c.entry-item.result c.loop-entry-test.true c.entry-item.is c.loop-entry.invariant c.in_err-add_record.ensures.front)

pub loop-entry-preserved : goal.loop-entry-preserved
loop-entry-preserved c =
    c.in_ok-add_record.ensures.added ∙ ap (λ (x : List ℕ). x ++ whole_record c.entry-item.result) c.loop-entry.invariant
    ∙ append_assoc c.args.self.now _ (whole_record c.entry-item.result)
    ∙ sym (ap (λ (x : List ℕ). c.args.self.now ++ x) (records_more c.args.records.now c.loop-entry.entry-index c.entry-item.result c.loop-entry-test.true c.entry-item.is))
