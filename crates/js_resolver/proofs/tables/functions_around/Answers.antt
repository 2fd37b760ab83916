use Rattle.std.proofs.Common.{arith}
use Rattle.js_resolver.specs.Variables.{around_there, owner_key}
use Rattle.js_resolver.proofs.Naming.{known_more}
use Rattle.js_resolver.proofs.tables.functions_around.Goals as goal

pub loop-mention-preserved : goal.loop-mention-preserved
loop-mention-preserved c =
    known_more owner_key around_there c.args.mentions.now c.loop-mention.mention-index c.mention-item.result c.loop-mention.around c.note_around.new.around c.around_there-owner.result
    (omega arith) c.mention-item.is c.around_there-owner.ensures c.loop-mention.invariant c.in_ok-note_around.ensures
