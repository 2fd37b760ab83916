use Rattle.std.proofs.Common.{arith}
use Rattle.js_names.specs.inner.TreeMentions.{tree_item_mentions}
use Rattle.js_names.proofs.Adding.{adds_more}
use Rattle.js_names.proofs.walk.put_items.Goals as goal

pub loop-item-preserved : goal.loop-item-preserved
loop-item-preserved c =
    adds_more (λ s x. tree_item_mentions s x) c.args.items.now c.loop-item.item-index c.item-item.result c.item-item.result c.args.walk.now c.loop-item.walk c.put_item.new.walk (omega arith) c.item-item.is
    c.loop-item.invariant c.in_ok-put_item.ensures
