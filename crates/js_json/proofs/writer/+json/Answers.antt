use Rattle.std.proofs.Common.{arith, sym}
use Rattle.js_json.proofs.Jsons.{items_done}
use Rattle.js_json.proofs.writer.+json.Goals as goal

pub json_of_items-returns : goal.json_of_items-returns
json_of_items-returns t c =
    rw (sym c.deref-item-items.ensures.value) (items_done c.loop-item.made.items c.deref-item-items.result.now c.loop-item.item-index (omega arith) c.loop-item.invariant)
