use Rattle.std.proofs.Common.{take}
use Rattle.bp_reading.specs.Laws.{AreRecords}
use Rattle.bp_records.proofs.keeping.items_keep.Given as goal

abbrev pub invariant-loop-entry : goal.invariant-loop-entry
invariant-loop-entry l = AreRecords (take l.entry-index l.entries)
