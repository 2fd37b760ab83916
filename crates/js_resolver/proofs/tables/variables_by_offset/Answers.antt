use Rattle.std.proofs.Common.{arith}
use Rattle.js_names.specs.Held.{held_in}
use Rattle.js_resolver.specs.Variables.{named_there, name_key}
use Rattle.js_resolver.proofs.Naming.{known_more}
use Rattle.js_resolver.proofs.tables.variables_by_offset.Goals as goal

pub loop-mention-preserved : goal.loop-mention-preserved
loop-mention-preserved c =
    known_more name_key (named_there c.args.assigned.now.keys c.args.constants.now.keys (λ f. held_in c.args.held.now f)) c.args.mentions.now c.loop-mention.mention-index c.mention-item.result c.loop-mention.named c.note.new.named c.in_ok-variable.variable
    (omega arith) c.mention-item.is c.in_ok-variable.ensures c.loop-mention.invariant c.in_ok-note.ensures
