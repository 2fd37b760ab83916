use Rattle.std.proofs.Common.{◌∙◌, List, ap, map}
use Rattle.std.specs.Vec.Iter.{into_iter_items}
use Rattle.bp_floor.specs.declared.part.Ran as made
use Rattle.bp_floor.specs.inner.Parts.{ran_seen}
use Rattle.bp_floor.proofs.Lists.{nothing_to_come}
use Rattle.bp_floor.proofs.Onward.{merging_begin, merging_left, merging_within, merging_next, merging_end}
use Rattle.bp_floor.proofs.board.Board.merge.Goals as goal

pub loop-entry-init : goal.loop-entry-init
loop-entry-init c = record {
  merging = merging_begin _ _ _ _ _ (ap (λ (xs : List made.Ran). map ran_seen xs) c.into_iter-entry-iterator.ensures.into_iter_gives.0 ∙ c.into_vec-entry-items.ensures) c.requires;
}

pub part-requires : goal.part-requires
part-requires c =
    merging_within _ _ _ (map ran_seen (into_iter_items c.next.new.self)) (ran_seen c.in-Some.field-0) _ _
    (merging_left _ _ _ _ _ _ _ _ c.loop-entry.invariant.merging (ap (λ (xs : List made.Ran). map ran_seen xs) c.in-Some.ensures.steps.0))

pub loop-entry-preserved : goal.loop-entry-preserved
loop-entry-preserved c = record {
  merging = merging_next _ _ _ (map ran_seen (into_iter_items c.next.new.self)) (ran_seen c.in-Some.field-0) _ _ _
      (merging_left _ _ _ _ _ _ _ _ c.loop-entry.invariant.merging (ap (λ (xs : List made.Ran). map ran_seen xs) c.in-Some.ensures.steps.0))
      c.in_ok-part.ensures.merged c.in_ok-part.ensures.keeps;
}

pub returns : goal.returns
returns c =
    let m = merging_end _ _ _ _ _ _ c.loop-entry.invariant.merging (ap (λ (xs : List made.Ran). map ran_seen xs) (nothing_to_come c.loop-entry.entry-iterator c.in-None.ensures.steps.0)) in
    record { merged = m.0; keeps = m.1 }
