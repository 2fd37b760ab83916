use Rattle.js_tree.specs.Views.{plain_tree}
use Rattle.js_names.proofs.Firsts.{assigned_of_mentions, slots_of_mentions}
use Rattle.js_names.proofs.faults.names_of.Goals as goal

pub returns-clause-assigned : goal.returns-clause-assigned
returns-clause-assigned c =
    assigned_of_mentions (plain_tree c.args.tree.now) c.in_ok-mentions.mentions.items c.deref.result.now c.in_ok-assigned.assigned.keys c.in_ok-mentions.ensures c.deref.ensures.value c.in_ok-assigned.ensures

pub returns-clause-slots : goal.returns-clause-slots
returns-clause-slots c =
    slots_of_mentions (plain_tree c.args.tree.now) c.in_ok-mentions.mentions.items c.deref.result.now c.deref-2.result.now c.in_ok-assigned.assigned.keys c.in_ok-slots.slots
    c.in_ok-mentions.ensures c.deref.ensures.value c.deref-2.ensures.value c.in_ok-assigned.ensures c.in_ok-slots.ensures
