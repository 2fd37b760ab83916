use Rattle.std.proofs.Common.{◌≡◌, ◌+◌, ◌<◌, ◌^◌}
use Rattle.std.specs.Vec.Iter.{into_iter_items}
use Rattle.bp_seeds.specs.inner.Merged.{merged, total}
use Rattle.bp_seeds.proofs.counts.Counts.merge.Given as goal

abbrev pub invariant-loop-more : goal.invariant-loop-more
invariant-loop-more l = record {
  rest : merged l.self (into_iter_items l.more-iterator) ≡ merged l.initial.self l.fn.later;
  few : total l.self + total (into_iter_items l.more-iterator) < 2 ^ 64;
}
