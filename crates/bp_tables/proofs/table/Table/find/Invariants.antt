use Rattle.std.proofs.Common.{◌≡◌, IsTrue, drop}
use Rattle.bp_tables.specs.inner.Keys.{entries, are_within}
use Rattle.bp_tables.specs.Found.{find_in}
use Rattle.bp_tables.proofs.table.Table.find.Given as goal

abbrev pub invariant-loop-row : goal.invariant-loop-row
invariant-loop-row g l = record {
  room : IsTrue (are_within (drop l.row-index l.row-items));
  same : find_in (entries (drop l.row-index l.row-items)) l.key ≡ find_in l.self l.key;
}
