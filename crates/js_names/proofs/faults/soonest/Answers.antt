use Rattle.std.proofs.Common.{arith, length}
use Rattle.js_names.specs.Rules.{fault_at}
use Rattle.js_names.specs.inner.Breaches.{fault_in}
use Rattle.js_names.specs.Held.{held_in}
use Rattle.js_names.proofs.Firsts.{soonest_more}
use Rattle.js_names.proofs.faults.soonest.Goals as goal

pub loop-mention-preserved : goal.loop-mention-preserved
loop-mention-preserved c =
    soonest_more (fault_at c.args.assigned.now.keys (λ g. length (held_in c.args.held.now g))) c.args.mentions.now c.loop-mention.mention-index c.mention-item.result
    (fault_in c.loop-mention.first) (fault_in c.sooner-first.result) (fault_in c.found_at.result) _
    (omega arith) c.mention-item.is c.found_at.ensures c.sooner-first.ensures c.loop-mention.invariant
