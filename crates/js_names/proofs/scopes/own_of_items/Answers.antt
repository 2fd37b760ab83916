use Rattle.std.proofs.Common.{arith}
use Rattle.js_names.specs.Taken.{own_of_tree_item}
use Rattle.js_names.proofs.Taking.{own_more}
use Rattle.js_names.proofs.scopes.own_of_items.Goals as goal

pub loop-item-preserved : goal.loop-item-preserved
loop-item-preserved c =
    own_more own_of_tree_item c.args.items.now c.loop-item.item-index c.item-item.result c.item-item.result c.args.own.now c.loop-item.own c.declare_item.new.own (omega arith) c.item-item.is
    c.loop-item.invariant c.in_ok-declare_item.ensures
