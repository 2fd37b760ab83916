use Rattle.bp_roll.proofs.Listing.{listed_left}
use Rattle.bp_roll.proofs.roll.give_up.Goals as goal

pub returns-clause-listed : goal.returns-clause-listed
returns-clause-listed c =
    let changes = c.swap_remove-before.ensures.updates in
    listed_left c.args.lists.now.entries c.args.kept.now.entries c.swap_remove-before.new.self.entries c.args.number changes.2 c.requires c.leave_before.new.lists.entries c.leave_before.ensures changes.1
