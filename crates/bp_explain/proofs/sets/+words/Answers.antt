use Rattle.std.proofs.Common.{arith}
use Rattle.bp_sets.proofs.Deciding.{set_below}
use Rattle.bp_explain.proofs.sets.+words.Goals as goal

pub write_sets-write_set-requires : goal.write_sets-write_set-requires
write_sets-write_set-requires t c =
    let below = set_below c.args.sets.now c.loop-set.set-index c.set-item.result c.loop-set-test.true c.set-item.is in
    search (arith, below)
