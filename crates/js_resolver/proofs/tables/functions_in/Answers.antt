use Rattle.std.proofs.Common.{arith}
use Rattle.std.proofs.lemmas.Grind.{common_steps}
use Rattle.js_names.specs.Slots.{functions_in}
use Rattle.js_resolver.proofs.tables.functions_in.Goals as goal

pub returns : goal.returns
unfolding functions_in
returns c = grind (arith, common_steps)
