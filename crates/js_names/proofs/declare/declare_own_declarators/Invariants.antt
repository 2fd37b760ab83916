use Rattle.std.proofs.Common.{take}
use Rattle.std.specs.List.{flat_map}
use Rattle.js_names.specs.Taken.{TakesOwn, own_of_declarator}
use Rattle.js_names.proofs.declare.declare_own_declarators.Given as goal

abbrev pub invariant-loop-declarator : goal.invariant-loop-declarator
invariant-loop-declarator l = TakesOwn l.initial.map l.map (flat_map (own_of_declarator l.owner l.direct l.kind) (take l.declarator-index l.declarators))
