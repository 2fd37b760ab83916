use Rattle.std.proofs.Common.{arith, sym}
use Rattle.js_value.proofs.Converted.{sets_step, sets_end}
use Rattle.js_value.proofs.Below.{value_below}
use Rattle.js_value.proofs.sets.+set_of.Goals as goal

pub sets_of_values-loop-item-preserved : goal.sets_of_values-loop-item-preserved
sets_of_values-loop-item-preserved t c =
    sets_step c.loop-item.made.items c.push.new.self.items c.in-Some.set c.item-item.result c.as_slice-item-items.result.now c.loop-item.item-index _ (omega arith) c.item-item.is c.in_ok-push-in-Some.ensures.items
    (sym (rw c.in-Some.is at c.in_ok-set_of_value.ensures)) c.loop-item.invariant

pub sets_of_values-returns : goal.sets_of_values-returns
sets_of_values-returns t c =
    rw (sym c.as_slice-item-items.ensures.list) (sets_end c.loop-item.made.items c.as_slice-item-items.result.now c.loop-item.item-index (omega arith) c.loop-item.invariant)

pub sets_of_values-set_of_value-requires : goal.sets_of_values-set_of_value-requires
sets_of_values-set_of_value-requires t c =
    let below = rw c.as_slice-item-items.ensures.list at (value_below c.as_slice-item-items.result.now c.loop-item.item-index c.item-item.result c.loop-item-test.true c.item-item.is) in
    search (arith, below)
