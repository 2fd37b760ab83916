use Rattle.std.proofs.Common.{◌≡◌, ◌++◌, take}
use Rattle.bp_log.specs.Logs.{records_text}
use Rattle.bp_told.proofs.page.Page.add_records.Given as goal

abbrev pub invariant-loop-entry : goal.invariant-loop-entry
invariant-loop-entry l = l.self ≡ l.fn.self ++ records_text (take l.entry-index l.records)
