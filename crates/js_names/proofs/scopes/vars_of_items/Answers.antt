use Rattle.std.proofs.Common.{arith, None}
use Rattle.js_names.specs.Taken.{keeps, vars_of_tree_item}
use Rattle.js_names.proofs.Taking.{vars_more}
use Rattle.js_names.proofs.scopes.vars_of_items.Goals as goal

pub loop-item-preserved : goal.loop-item-preserved
loop-item-preserved c =
    vars_more (keeps None) vars_of_tree_item c.args.items.now c.loop-item.item-index c.item-item.result c.item-item.result c.args.vars.now c.loop-item.vars c.declare_item_vars.new.vars (omega arith) c.item-item.is
    c.loop-item.invariant c.in_ok-declare_item_vars.ensures
