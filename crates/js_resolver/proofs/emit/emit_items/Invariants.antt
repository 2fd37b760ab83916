use Rattle.std.proofs.Common.{map, drop}
use Rattle.js_tree.specs.Views.{plain_item}
use Rattle.js_resolver.specs.Nodes.{items_piece}
use Rattle.js_resolver.specs.inner.Emits.{count}
use Rattle.js_resolver.proofs.Loops.{Remains}
use Rattle.js_resolver.proofs.emit.emit_items.Given as goal

abbrev pub invariant-loop-item : goal.invariant-loop-item
invariant-loop-item l =
    Remains l.initial.emitter l.emitter l.numbers.items (items_piece l.tables (count l.emitter) (map plain_item (drop l.item-index l.items))) (items_piece l.tables (count l.initial.emitter) (map plain_item l.items))
