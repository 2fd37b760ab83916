use Rattle.std.proofs.Common.{◌≡◌, ◌++◌, length}
use Rattle.std.specs.Vec.Iter.{into_iter_items}
use Rattle.bp_seeds.specs.inner.Parts.{AreCounts, before}
use Rattle.bp_seeds.proofs.sweep.gather.Given as goal

abbrev pub invariant-loop-part : goal.invariant-loop-part
invariant-loop-part l = record {
  told : AreCounts l.bytes (l.sweep).options (before (l.sweep).count l.size (length l.yielded)) (l.sweep).first l.counts;
  all : l.yielded ++ into_iter_items l.part-iterator ≡ l.fn.parts.items;
}
