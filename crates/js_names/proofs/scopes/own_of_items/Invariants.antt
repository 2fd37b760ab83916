use Rattle.std.proofs.Common.{take}
use Rattle.std.specs.List.{flat_map}
use Rattle.js_names.specs.Taken.{TakesOwn, own_of_tree_item}
use Rattle.js_names.proofs.scopes.own_of_items.Given as goal

abbrev pub invariant-loop-item : goal.invariant-loop-item
invariant-loop-item l = TakesOwn l.initial.own l.own (flat_map own_of_tree_item (take l.item-index l.items))
