use Rattle.std.proofs.Common.{List, [], ◌∷◌, ◌++◌}
use Rattle.std.proofs.lemmas.List.{take_more, take_all}
use Rattle.bp_log.specs.declared.record.Record.{Record}
use Rattle.bp_reading.specs.Laws.{IsRecord, AreRecords}
use Rattle.bp_records.proofs.keeping.items_keep.Goals as goal

are_push : (rs : List Record) (r : Record) → AreRecords rs → IsRecord r → AreRecords (rs ++ r ∷ [])
are_push [] r h k = (k, tt)
are_push (q ∷ rs) r h k = (h.0, are_push rs r h.1 k)

pub loop-entry-preserved : goal.loop-entry-preserved
loop-entry-preserved c =
    rw (take_more c.args.entries.now c.loop-entry.entry-index c.entry-item.result c.loop-entry-test.true, ← c.entry-item.is)
    (are_push _ _ c.loop-entry.invariant c.record_keeps.ensures)

pub returns : goal.returns
returns c = rw (take_all c.loop-entry.entry-index c.args.entries.now c.loop-entry-test.false) at c.loop-entry.invariant
