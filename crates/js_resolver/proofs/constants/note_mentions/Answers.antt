use Rattle.std.proofs.Common.{arith}
use Rattle.js_names.specs.Views.{mention_of}
use Rattle.js_resolver.specs.Resolved.{constant_there}
use Rattle.js_resolver.proofs.Starting.{notes_more}
use Rattle.js_resolver.proofs.constants.note_mentions.Goals as goal

pub loop-mention-preserved : goal.loop-mention-preserved
loop-mention-preserved c =
    notes_more (λ q p. constant_there q (mention_of p).declared) c.args.mentions.now c.loop-mention.mention-index c.mention-item.result c.mention-item.result c.args.starts.now c.loop-mention.starts c.note_mention.new.starts (omega arith) c.mention-item.is
    c.loop-mention.invariant c.in_ok-note_mention.ensures
