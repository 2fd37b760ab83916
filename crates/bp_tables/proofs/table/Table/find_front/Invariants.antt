use Rattle.std.proofs.Common.{◌≡◌, ℕ, IsTrue, take, drop}
use Rattle.bp_tables.specs.inner.Keys.{entries, are_within}
use Rattle.bp_tables.specs.Found.{find_in, front_in}
use Rattle.bp_tables.proofs.table.Table.find_front.Given as goal

abbrev pub invariant-loop-row : goal.invariant-loop-row
invariant-loop-row g l = record {
  room : IsTrue (are_within (drop l.row-index l.row-items));
  same : front_in (entries (drop l.row-index l.row-items)) l.bytes ≡ front_in l.self l.bytes;
  value : (n : ℕ) → find_in (entries (drop l.row-index l.row-items)) (take n l.bytes) ≡ find_in l.self (take n l.bytes);
}
