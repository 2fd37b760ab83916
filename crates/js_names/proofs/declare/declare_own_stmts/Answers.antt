use Rattle.std.proofs.Common.{arith}
use Rattle.js_names.specs.Taken.{own_of_stmt}
use Rattle.js_names.proofs.Taking.{own_more}
use Rattle.js_names.proofs.declare.declare_own_stmts.Goals as goal

pub loop-stmt-preserved : goal.loop-stmt-preserved
loop-stmt-preserved c =
    own_more (own_of_stmt c.args.owner c.args.direct) c.args.body.now c.loop-stmt.stmt-index c.stmt-item.result c.stmt-item.result c.args.map.now c.loop-stmt.map c.declare_own_stmt.new.map (omega arith) c.stmt-item.is
    c.loop-stmt.invariant c.in_ok-declare_own_stmt.ensures
