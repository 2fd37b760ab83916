use Rattle.std.proofs.Common.{take}
use Rattle.std.specs.List.{flat_map}
use Rattle.std.specs.Prelude.{option_copied}
use Rattle.js_names.specs.Taken.{TakesVars, keeps, vars_of_declarator}
use Rattle.js_names.proofs.declare.declare_var_declarators.Given as goal

abbrev pub invariant-loop-declarator : goal.invariant-loop-declarator
invariant-loop-declarator l = TakesVars (keeps (option_copied l.own)) l.initial.map l.map (flat_map (vars_of_declarator l.owner l.direct l.kind) (take l.declarator-index l.declarators))
