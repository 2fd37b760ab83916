use Rattle.std.proofs.Common.{arith}
use Rattle.js_names.specs.Taken.{in_map}
use Rattle.js_names.proofs.Taking.{parameters_more}
use Rattle.js_names.proofs.scopes.declare_parameters.Goals as goal

pub loop-name-preserved : goal.loop-name-preserved
loop-name-preserved c =
    parameters_more c.args.owner (in_map c.args.vars.now) c.args.names.now c.loop-name.name-index c.name-item.result c.name-item.result c.args.own.now c.loop-name.own c.declare_parameter.new.own
    (omega arith) c.name-item.is c.loop-name.invariant c.in_ok-declare_parameter.ensures
