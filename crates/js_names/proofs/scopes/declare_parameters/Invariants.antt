use Rattle.std.proofs.Common.{take}
use Rattle.js_names.specs.Scopes.{parameters}
use Rattle.js_names.specs.Taken.{TakesOwn, in_map}
use Rattle.js_names.proofs.scopes.declare_parameters.Given as goal

abbrev pub invariant-loop-name : goal.invariant-loop-name
invariant-loop-name l = TakesOwn l.initial.own l.own (parameters l.owner (in_map l.vars) (take l.name-index l.names))
