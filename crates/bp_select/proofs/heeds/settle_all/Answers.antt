use Rattle.std.proofs.Common.{map, refl}
use Rattle.bp_live.specs.Lives.{live_of}
use Rattle.bp_select.proofs.HeedLemmas.{all_noted, notes_all, notes_fault, notes_step}
use Rattle.bp_select.proofs.heeds.settle_all.Goals as goal

pub loop-number-init : goal.loop-number-init
loop-number-init c = c.requires.noted

pub loop-number-preserved : goal.loop-number-preserved
loop-number-preserved c =
    notes_step (map live_of c.args.live.now) c.loop-number.roll c.settle_one.new.roll c.args.changed.now c.loop-number.number-index _ c.loop-number-test.true refl c.settle_one.ensures.others c.in_ok-settle_one.ensures.noted c.loop-number.invariant

pub returns-in_err-settle_one-clause-noted : goal.returns-in_err-settle_one-clause-noted
returns-in_err-settle_one-clause-noted c =
    notes_fault (map live_of c.args.live.now) c.loop-number.roll c.settle_one.new.roll c.args.changed.now c.loop-number.number-index _ c.loop-number-test.true refl c.settle_one.ensures.others c.loop-number.invariant

pub returns-clause-settled : goal.returns-clause-settled
returns-clause-settled c = notes_all (map live_of c.args.live.now) c.loop-number.roll c.args.changed.now c.loop-number.number-index c.loop-number-test.false c.loop-number.invariant

pub returns-clause-noted : goal.returns-clause-noted
returns-clause-noted c =
    all_noted (map live_of c.args.live.now) c.loop-number.roll c.args.changed.now
    (notes_all (map live_of c.args.live.now) c.loop-number.roll c.args.changed.now c.loop-number.number-index c.loop-number-test.false c.loop-number.invariant)
