use Rattle.std.proofs.Common.{take, None}
use Rattle.std.specs.List.{flat_map}
use Rattle.js_names.specs.Taken.{TakesVars, keeps, vars_of_tree_item}
use Rattle.js_names.proofs.scopes.vars_of_items.Given as goal

abbrev pub invariant-loop-item : goal.invariant-loop-item
invariant-loop-item l = TakesVars (keeps None) l.initial.vars l.vars (flat_map vars_of_tree_item (take l.item-index l.items))
