use Rattle.std.proofs.Common.{arith, map, drop}
use Rattle.std.proofs.lemmas.List.{drop_all}
use Rattle.js_tree.specs.Views.{plain_item}
use Rattle.js_resolver.specs.Nodes.{items_piece}
use Rattle.js_resolver.specs.inner.Emits.{count}
use Rattle.js_resolver.proofs.Loops.{items_done, items_more, remains_all}
use Rattle.js_resolver.proofs.emit.emit_items.Goals as goal

pub loop-item-preserved : goal.loop-item-preserved
loop-item-preserved c =
    items_more c.args.tables.now c.args.items.now c.loop-item.item-index c.item-item.result c.item-item.result c.args.emitter.now c.loop-item.emitter c.emit_item.new.emitter c.loop-item.numbers.items c.emit_item.new.numbers.items
    (items_piece c.args.tables.now (count c.args.emitter.now) (map plain_item c.args.items.now)) (omega arith) c.item-item.is c.loop-item.invariant c.in_ok-emit_item.ensures

pub loop-item-init : goal.loop-item-init
loop-item-init c = remains_all c.args.emitter.now c.new-numbers.result.items (items_piece c.args.tables.now (count c.args.emitter.now) (map plain_item c.args.items.now)) c.new-numbers.ensures.items

pub returns : goal.returns
returns c =
    items_done c.args.tables.now c.args.emitter.now c.loop-item.emitter c.loop-item.numbers.items (drop c.loop-item.item-index c.args.items.now) (items_piece c.args.tables.now (count c.args.emitter.now) (map plain_item c.args.items.now)) (drop_all c.loop-item.item-index c.args.items.now (omega arith)) c.loop-item.invariant
