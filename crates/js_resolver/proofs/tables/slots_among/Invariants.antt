use Rattle.std.proofs.Common.{◌≡◌, take}
use Rattle.js_names.specs.Held.{held_in}
use Rattle.js_resolver.specs.Variables.{slots_among}
use Rattle.js_resolver.proofs.tables.slots_among.Given as goal

abbrev pub invariant-loop-variable : goal.invariant-loop-variable
invariant-loop-variable l = l.slots.items ≡ slots_among (held_in l.held l.function) (take l.variable-index l.variables)
