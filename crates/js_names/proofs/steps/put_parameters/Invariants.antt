use Rattle.std.proofs.Common.{take}
use Rattle.js_names.specs.Unresolved.{parameter_mentions}
use Rattle.js_names.specs.inner.Walks.{Adds, scopes_in}
use Rattle.js_names.proofs.steps.put_parameters.Given as goal

abbrev pub invariant-loop-name : goal.invariant-loop-name
invariant-loop-name l = Adds l.initial.walk l.walk (parameter_mentions (scopes_in l.initial.walk) l.around (take l.name-index l.names))
