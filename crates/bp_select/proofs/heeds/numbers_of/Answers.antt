use Rattle.bp_select.proofs.HeedLemmas.{numbers_all, numbers_step}
use Rattle.bp_select.proofs.heeds.numbers_of.Goals as goal

pub loop-stated-preserved : goal.loop-stated-preserved
loop-stated-preserved c =
    numbers_step c.args.live.now c.loop-stated.stated-index c.stated-item.result c.loop-stated.numbers.items c.push.new.self.items c.loop-stated-test.true c.stated-item.is c.in_ok-push.ensures.items c.loop-stated.invariant

pub returns : goal.returns
returns c = numbers_all c.args.live.now c.loop-stated.stated-index c.loop-stated.numbers.items c.loop-stated-test.false c.loop-stated.invariant
