use Rattle.std.proofs.Common.{take}
use Rattle.std.specs.List.{flat_map}
use Rattle.js_names.specs.inner.Walks.{Adds, scopes_in}
use Rattle.js_names.specs.inner.TreeMentions.{tree_item_mentions}
use Rattle.js_names.proofs.walk.put_items.Given as goal

abbrev pub invariant-loop-item : goal.invariant-loop-item
invariant-loop-item l = Adds l.initial.walk l.walk (flat_map (tree_item_mentions (scopes_in l.initial.walk)) (take l.item-index l.items))
