use Rattle.std.proofs.Common.{◌∙◌, List, ap, sym, arith}
use Rattle.std.specs.Vec.Iter.{into_iter_items}
use Rattle.bp_explain.specs.Seeds.{Counted}
use Rattle.bp_seeds.specs.inner.Merged.{merged, total}
use Rattle.bp_seeds.proofs.Merging.{total_more}
use Rattle.bp_seeds.proofs.counts.Counts.merge.Goals as goal

pub loop-more-preserved : goal.loop-more-preserved
loop-more-preserved c =
    let i = c.loop-more.invariant in
    let step = c.in-Some.ensures.steps.0 in
    let made = c.in_ok-add.ensures in
    let more = total_more c.in-Some.more c.loop-more.self in
    let all = ap total step in
    let new = ap total made in
    let few = i.few in
    record {
      rest = ap (λ (s : List Counted). merged s (into_iter_items c.next.new.self)) made ∙ ap (merged c.loop-more.self) (sym step) ∙ i.rest;
      few = omega (arith, more, all, new, few);
    }
