use Rattle.std.proofs.Common.{arith}
use Rattle.js_names.specs.Taken.{own_of_declarator}
use Rattle.js_names.proofs.Taking.{own_more}
use Rattle.js_names.proofs.declare.declare_own_declarators.Goals as goal

pub loop-declarator-preserved : goal.loop-declarator-preserved
loop-declarator-preserved c =
    own_more (own_of_declarator c.args.owner c.args.direct c.args.kind) c.args.declarators.now c.loop-declarator.declarator-index c.declarator-item.result c.declarator-item.result c.args.map.now c.loop-declarator.map c.declare_own_declarator.new.map (omega arith) c.declarator-item.is
    c.loop-declarator.invariant c.in_ok-declare_own_declarator.ensures
