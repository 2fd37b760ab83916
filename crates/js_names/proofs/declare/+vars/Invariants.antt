use Rattle.std.proofs.Common.{take}
use Rattle.std.specs.List.{flat_map}
use Rattle.std.specs.Prelude.{option_copied}
use Rattle.js_names.specs.Taken.{TakesVars, keeps, vars_of_stmt}
use Rattle.js_names.proofs.declare.+vars.Given as goal

abbrev pub invariant-declare_list_vars-loop-stmt : goal.invariant-declare_list_vars-loop-stmt
invariant-declare_list_vars-loop-stmt l = TakesVars (keeps (option_copied l.own)) l.initial.map l.map (flat_map (vars_of_stmt l.owner l.direct) (take l.stmt-index l.body))
