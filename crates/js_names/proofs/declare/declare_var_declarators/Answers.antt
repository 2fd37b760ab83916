use Rattle.std.specs.Prelude.{option_copied}
use Rattle.std.proofs.Common.{arith}
use Rattle.js_names.specs.Taken.{keeps, vars_of_declarator}
use Rattle.js_names.proofs.Taking.{vars_more}
use Rattle.js_names.proofs.declare.declare_var_declarators.Goals as goal

pub loop-declarator-preserved : goal.loop-declarator-preserved
loop-declarator-preserved c =
    vars_more (keeps (option_copied c.args.own)) (vars_of_declarator c.args.owner c.args.direct c.args.kind) c.args.declarators.now c.loop-declarator.declarator-index c.declarator-item.result c.declarator-item.result c.args.map.now c.loop-declarator.map c.declare_var_declarator.new.map (omega arith) c.declarator-item.is
    c.loop-declarator.invariant c.in_ok-declare_var_declarator.ensures
