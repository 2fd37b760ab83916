use Rattle.std.proofs.Common.{List, map}
use Rattle.std.proofs.lemmas.List.{at_drop_more, at_drop_all}
use Rattle.bp_floor.specs.declared.touching.Touch.{Touch}
use Rattle.bp_floor.specs.declared.touching.Touch.TheVariants.{Moves}
use Rattle.bp_floor.specs.inner.Entries.{entry_seen}
use Rattle.bp_floor.specs.inner.Reached.{touch_seen}
use Rattle.bp_floor.proofs.Handlers.{entering_next, entering_end}
use Rattle.bp_floor.proofs.seats.Seats.entries.Goals as goal

pub loop-touch-preserved : goal.loop-touch-preserved
loop-touch-preserved c = record {
  entering = entering_next _ _ _ _ _ _ _ _ (entry_seen c.in_ok-entry.field-0) c.loop-touch.invariant.entering
      (at_drop_more (λ (xs : List Touch). map touch_seen xs) c.args.touches.now c.loop-touch.touch-index (Moves 0) c.loop-touch-test.true)
      c.in_ok-entry.ensures c.in_ok-push.ensures;
}

pub returns : goal.returns
returns c = entering_end _ _ _ _ _ c.loop-touch.invariant.entering (at_drop_all (λ (xs : List Touch). map touch_seen xs) c.args.touches.now c.loop-touch.touch-index c.loop-touch-test.false)
