use Rattle.std.proofs.Common.{arith}
use Rattle.js_names.specs.Unresolved.{parameter_mention}
use Rattle.js_names.proofs.Adding.{adds_more}
use Rattle.js_names.proofs.steps.put_parameters.Goals as goal

pub loop-name-preserved : goal.loop-name-preserved
loop-name-preserved c =
    adds_more (λ s n. parameter_mention s c.args.around n) c.args.names.now c.loop-name.name-index c.name-item.result c.name-item.result c.args.walk.now c.loop-name.walk c.put_name.new.walk
    (omega arith) c.name-item.is c.loop-name.invariant c.in_ok-put_name.ensures
