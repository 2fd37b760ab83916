use Rattle.std.proofs.Common.{sym, arith}
use Rattle.bp_sets.proofs.Deciding.{set_below}
use Rattle.bp_known.proofs.Sameness.{sets_differ}
use Rattle.bp_known.proofs.same.+same.Goals as goal

pub same_sets-returns-then-left-right : goal.same_sets-returns-then-left-right
same_sets-returns-then-left-right t c = sym (sets_differ c.args.left.now c.args.right.now (λ e. omega (arith, e)))

pub same_sets-same_set-requires : goal.same_sets-same_set-requires
same_sets-same_set-requires t c =
    let below = set_below c.args.left.now c.loop-at.at c.index-left-at.result (omega arith) c.index-left-at.is in
    search (arith, below)
