use Rattle.std.proofs.Common.{◌∙◌, List, refl, ap, map}
use Rattle.std.specs.Vec.Iter.{into_iter_items}
use Rattle.bp_floor.specs.declared.entry.Entry as entry
use Rattle.bp_floor.specs.inner.Entries.{entry_seen}
use Rattle.bp_floor.proofs.Lists.{nothing_to_come}
use Rattle.bp_floor.proofs.ReturnLemmas.{goes_begin, goes_left, goes_some, goes_next, goes_end}
use Rattle.bp_floor.proofs.board.Board.put_back.Goals as goal

pub loop-entry-init : goal.loop-entry-init
loop-entry-init c = record {
  goes = goes_begin _ _ _ _ _ _ c.requires.0 (ap (λ (xs : List entry.Entry). map entry_seen xs) c.into_iter-entry-iterator.ensures.into_iter_gives.0 ∙ c.into_vec-entries.ensures) c.in_ok-rans.ensures c.requires.1;
  program = refl;
}

pub next_part-requires : goal.next_part-requires
next_part-requires c =
    let rest = map entry_seen (into_iter_items c.next.new.self) in
    let s = goes_some _ _ _ _ _ _ _ _ _ (goes_left _ _ _ _ _ _ _ _ _ (entry_seen c.in-Some.entry) rest c.loop-entry.invariant.goes (ap (λ (xs : List entry.Entry). map entry_seen xs) c.in-Some.ensures.steps.0)) in
    (s.0, rest, s.1)

pub loop-entry-preserved : goal.loop-entry-preserved
loop-entry-preserved c =
    let rest = map entry_seen (into_iter_items c.next.new.self) in
    record {
      goes = goes_next _ _ _ _ (entry_seen c.in-Some.entry) rest _ _ _ _ _ _ _ _ _
          (goes_left _ _ _ _ _ _ _ _ _ (entry_seen c.in-Some.entry) rest c.loop-entry.invariant.goes (ap (λ (xs : List entry.Entry). map entry_seen xs) c.in-Some.ensures.steps.0))
          c.in_ok-part.ensures.puts refl c.in_ok-push.ensures;
      program = c.next_part.ensures.program ∙ c.loop-entry.invariant.program;
    }

pub returns : goal.returns
returns c = record {
  program = c.loop-entry.invariant.program;
  back = λ r m. goes_end _ _ _ _ _ _ _ _ _ c.loop-entry.invariant.goes (ap (λ (xs : List entry.Entry). map entry_seen xs) (nothing_to_come c.loop-entry.entry-iterator c.in-None.ensures.steps.0)) r m;
  same = c.loop-entry.invariant.goes.same;
}
