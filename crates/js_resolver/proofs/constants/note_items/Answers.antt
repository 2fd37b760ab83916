use Rattle.std.proofs.Common.{arith}
use Rattle.js_tree.specs.Views.{plain_item}
use Rattle.js_resolver.specs.Resolved.{function_named}
use Rattle.js_resolver.proofs.Starting.{notes_more}
use Rattle.js_resolver.proofs.constants.note_items.Goals as goal

pub loop-item-preserved : goal.loop-item-preserved
loop-item-preserved c =
    notes_more (λ q i. function_named c.args.tables.now q (plain_item i)) c.args.items.now c.loop-item.item-index c.item-item.result c.item-item.result c.args.starts.now c.loop-item.starts c.note_item.new.starts (omega arith) c.item-item.is
    c.loop-item.invariant c.in_ok-note_item.ensures
