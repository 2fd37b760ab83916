use Rattle.std.proofs.Common.{◌∙◌, List, map, refl}
use Rattle.std.proofs.lemmas.List.{at_drop_more, at_drop_all}
use Rattle.bp_floor.specs.declared.touching.Touch.{Touch}
use Rattle.bp_floor.specs.declared.touching.Touch.TheVariants.{Moves}
use Rattle.bp_floor.specs.inner.Reached.{touch_seen}
use Rattle.bp_floor.proofs.ReachedLemmas.{reaches_start, reaches_standing, reaches_next, reaches_end}
use Rattle.bp_floor.proofs.board.Board.touch_all.Goals as goal

pub loop-touch-init : goal.loop-touch-init
loop-touch-init c = record { reaches = reaches_start _ _ _ _ c.requires.0 c.requires.1 refl; lines = refl; verdict = refl }

pub loop-touch-preserved : goal.loop-touch-preserved
loop-touch-preserved c = record {
  reaches = reaches_next _ _ _ _ _ _ _ _ c.loop-touch.invariant.reaches
      (at_drop_more (λ (xs : List Touch). map touch_seen xs) c.args.touches.now c.loop-touch.touch-index (Moves 0) c.loop-touch-test.true)
      c.in_ok-touch.ensures.touched;
  lines = c.in_ok-touch.ensures.lines ∙ c.loop-touch.invariant.lines;
  verdict = c.in_ok-touch.ensures.verdict ∙ c.loop-touch.invariant.verdict;
}

pub touch-requires : goal.touch-requires
touch-requires c =
    reaches_standing _ _ _ _ _ _ _ c.loop-touch.invariant.reaches
    (at_drop_more (λ (xs : List Touch). map touch_seen xs) c.args.touches.now c.loop-touch.touch-index (Moves 0) c.loop-touch-test.true)

pub returns : goal.returns
returns c = record {
  touched = reaches_end _ _ _ _ _ c.loop-touch.invariant.reaches (at_drop_all (λ (xs : List Touch). map touch_seen xs) c.args.touches.now c.loop-touch.touch-index c.loop-touch-test.false);
  lines = c.loop-touch.invariant.lines;
  verdict = c.loop-touch.invariant.verdict;
}
