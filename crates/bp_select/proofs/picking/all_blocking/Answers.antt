use Rattle.std.proofs.Common.{map}
use Rattle.bp_live.specs.Lives.{lent}
use Rattle.bp_select.specs.inner.Parts.{blocks_nothing}
use Rattle.bp_select.proofs.Finding.{part_all, part_step}
use Rattle.bp_select.proofs.picking.all_blocking.Goals as goal

pub loop-stated-preserved : goal.loop-stated-preserved
loop-stated-preserved c =
    part_step blocks_nothing c.blocks-in-loop-stated.result (map lent c.loop-stated.blocking.items) (map lent c.keep.new.kept.items) c.args.live.now c.loop-stated.stated-index c.stated-item.result c.loop-stated-test.true c.stated-item.is c.blocks-in-loop-stated.ensures c.in_ok-keep.ensures
    c.loop-stated.invariant

pub returns : goal.returns
returns c = part_all blocks_nothing (map lent c.loop-stated.blocking.items) c.args.live.now c.loop-stated.stated-index c.loop-stated-test.false c.loop-stated.invariant
