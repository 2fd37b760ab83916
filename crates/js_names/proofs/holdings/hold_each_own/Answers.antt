use Rattle.std.proofs.Common.{arith}
use Rattle.js_names.specs.Held.{own_in}
use Rattle.js_names.specs.Views.{mention_of}
use Rattle.js_names.proofs.HeldLemmas.{holds_more}
use Rattle.js_names.proofs.holdings.hold_each_own.Goals as goal

pub loop-mention-preserved : goal.loop-mention-preserved
loop-mention-preserved c =
    holds_more (λ p. own_in c.args.own c.args.assigned.now.keys (mention_of p)) c.args.mentions.now c.loop-mention.mention-index c.mention-item.result c.mention-item.result c.args.held.now c.loop-mention.held c.hold_own.new.held (omega arith) c.mention-item.is
    c.loop-mention.invariant c.in_ok-hold_own.ensures
