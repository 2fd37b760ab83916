use Rattle.std.proofs.Common.{◌∙◌, ap, map}
use Rattle.js_names.specs.Slots.{constants_of, functions_in, captures, vars_of}
use Rattle.js_names.specs.Views.{mention_of}
use Rattle.js_names.specs.Held.{held_in}
use Rattle.js_resolver.specs.Variables.{named_there, around_there, name_key, owner_key, known_in}
use Rattle.js_resolver.proofs.Standing.{stands}
use Rattle.js_resolver.proofs.name_tables.NameTables.new.Goals as goal

pub invariant_of-result : goal.invariant_of-result
invariant_of-result c =
    let n = c.args.names in
    let t = c.in_ok-meanings.meanings in
    let k = t.constants.keys in
    let f = c.in_ok-functions.functions in
    let h = c.in_ok-holdings.holdings in
    stands t.variables k f.codes.keys n.assigned.keys f.around n.slots h.captured h.vars (map mention_of n.mentions.items) c.requires.assigned
    (λ q. c.in_ok-meanings.ensures.variables q ∙ ap (λ z. known_in name_key (named_there n.assigned.keys k (λ g. held_in n.slots g)) q (map mention_of z)) c.deref.ensures.value)
    (c.in_ok-meanings.ensures.constants ∙ ap (λ z. constants_of n.assigned.keys (map mention_of z)) c.deref.ensures.value)
    (c.in_ok-functions.ensures.codes ∙ ap (λ z. functions_in (map mention_of z)) c.deref-2.ensures.value)
    (λ q. c.in_ok-functions.ensures.around q ∙ ap (λ z. known_in owner_key around_there q (map mention_of z)) c.deref-2.ensures.value)
    c.requires.slots
    (λ q. c.in_ok-holdings.ensures.captured q ∙ ap (λ z. captures n.assigned.keys q (map mention_of z)) c.deref-3.ensures.value)
    (λ q. c.in_ok-holdings.ensures.vars q ∙ ap (λ z. vars_of n.assigned.keys q (map mention_of z)) c.deref-3.ensures.value)
