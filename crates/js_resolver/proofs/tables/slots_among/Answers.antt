use Rattle.std.proofs.Common.{◌∙◌, ap, arith}
use Rattle.std.proofs.lemmas.List.{take_all}
use Rattle.js_names.specs.Held.{held_in}
use Rattle.js_resolver.specs.Variables.{index_in, slots_among}
use Rattle.js_resolver.proofs.Naming.{slots_more}
use Rattle.js_resolver.proofs.tables.slots_among.Goals as goal

pub loop-variable-preserved : goal.loop-variable-preserved
loop-variable-preserved c =
    slots_more (index_in (held_in c.args.held.now c.args.function)) c.args.variables.now c.loop-variable.variable-index c.loop-variable.slots.items c.push_slot.new.slots.items
    (omega arith) c.loop-variable.invariant c.in_ok-push_slot.ensures

pub returns : goal.returns
returns c = c.loop-variable.invariant ∙ ap (slots_among (held_in c.args.held.now c.args.function)) (take_all c.loop-variable.variable-index c.args.variables.now (omega arith))
