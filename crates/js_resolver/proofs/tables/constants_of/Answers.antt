use Rattle.std.proofs.Common.{arith}
use Rattle.std.proofs.lemmas.Grind.{common_steps}
use Rattle.js_names.specs.Slots.{constants_of}
use Rattle.js_resolver.proofs.tables.constants_of.Goals as goal

pub returns : goal.returns
unfolding constants_of
returns c = grind (arith, common_steps)
