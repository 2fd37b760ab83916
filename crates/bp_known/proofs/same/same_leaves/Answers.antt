use Rattle.std.proofs.Common.{sym, arith}
use Rattle.bp_known.proofs.Sameness.{leaves_differ}
use Rattle.bp_known.proofs.same.same_leaves.Goals as goal

pub returns-then-left-right : goal.returns-then-left-right
returns-then-left-right c = sym (leaves_differ c.args.left.now c.args.right.now (λ e. omega (arith, e)))
