use Rattle.std.proofs.Common.{◌∙◌, ap, sym}
use Rattle.bp_roll.specs.Rolls.{PlainRoll, is_noted}
use Rattle.bp_roll.proofs.Listing.{noted_there, plain_listed}
use Rattle.bp_roll.proofs.roll.Roll.restate.Goals as goal

pub returns-clause-others : goal.returns-clause-others
returns-clause-others c = λ k n e h.
    plain_listed c.take_up.new.lists.entries k n
    ∙ c.take_up.ensures.others k n
    (c.give_up.ensures.others k n e (sym (plain_listed c.self.inside.lists.entries k n) ∙ ap (λ (r : PlainRoll). is_noted r k n) c.self.view_is ∙ h))

pub returns-clause-noted : goal.returns-clause-noted
returns-clause-noted c = noted_there c.take_up.result c.take_up.new.lists.entries c.args.keys.items c.args.number c.take_up.ensures.there
