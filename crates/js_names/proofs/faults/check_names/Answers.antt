use Rattle.std.proofs.Common.{◌∙◌, refl, sym}
use Rattle.js_tree.specs.Views.{plain_tree}
use Rattle.js_names.proofs.Firsts.{fault_of_mentions}
use Rattle.js_names.proofs.faults.check_names.Goals as goal

pub returns-in-Some-clause-refused : goal.returns-in-Some-clause-refused
returns-in-Some-clause-refused c = λ _.
    let names = c.in_ok-names.names in
    sym (fault_of_mentions (plain_tree c.args.tree.now) names.mentions.items names.mentions.items names.assigned.keys names.slots c.in_ok-first.first
    c.in_ok-names.ensures.mentions refl c.in_ok-names.ensures.assigned c.in_ok-names.ensures.slots c.in_ok-first.ensures)
    ∙ c.in-Some.is

pub returns-in-None-clause-accepted : goal.returns-in-None-clause-accepted
returns-in-None-clause-accepted c =
    let names = c.in_ok-names.names in
    sym (fault_of_mentions (plain_tree c.args.tree.now) names.mentions.items names.mentions.items names.assigned.keys names.slots c.in_ok-first.first
    c.in_ok-names.ensures.mentions refl c.in_ok-names.ensures.assigned c.in_ok-names.ensures.slots c.in_ok-first.ensures)
    ∙ c.in-None.is
