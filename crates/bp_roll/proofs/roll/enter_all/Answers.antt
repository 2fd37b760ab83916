use Rattle.bp_roll.proofs.Listing.{enter_step, enter_all}
use Rattle.bp_roll.proofs.roll.enter_all.Goals as goal

pub loop-key-preserved : goal.loop-key-preserved
loop-key-preserved c = record {
  there =
      enter_step c.loop-key.lists.entries c.enter.new.lists.entries c.args.keys.now c.loop-key.key-index c.args.number c.loop-key-test.true c.in_ok-enter.ensures.there c.enter.ensures.others c.loop-key.invariant.there;
  others = λ k n h. c.enter.ensures.others k n (c.loop-key.invariant.others k n h);
}

pub returns-clause-there : goal.returns-clause-there
returns-clause-there c = enter_all c.loop-key.lists.entries c.args.keys.now c.loop-key.key-index c.args.number c.loop-key-test.false c.loop-key.invariant.there

pub returns-in_err-enter-clause-others : goal.returns-in_err-enter-clause-others
returns-in_err-enter-clause-others c = λ k n h. c.enter.ensures.others k n (c.loop-key.invariant.others k n h)
