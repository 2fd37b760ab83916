use Rattle.std.proofs.Common.{◌∙◌, ℕ, List, ap}
use Rattle.bp_roll.specs.Rolls.{is_in}
use Rattle.bp_roll.proofs.Listing.{listed_kept_at, listed_more}
use Rattle.bp_roll.proofs.roll.take_up.Goals as goal

pub returns-clause-listed : goal.returns-clause-listed
returns-clause-listed c =
    let changes = c.in_ok-insert.ensures.updates in
    listed_kept_at c.enter_all.new.lists.entries c.args.kept.now.entries c.insert.new.self.entries c.args.number changes.2
    (listed_more c.args.lists.now.entries c.enter_all.new.lists.entries c.args.kept.now.entries c.enter_all.ensures.others c.requires) c.args.keys changes.1
    (λ k h. c.in_ok-enter_all.ensures.there k (ap (λ (ks : List ℕ). is_in k ks) c.as_slice.ensures.value ∙ h))

pub returns-in_err-enter_all-clause-listed : goal.returns-in_err-enter_all-clause-listed
returns-in_err-enter_all-clause-listed c = listed_more c.args.lists.now.entries c.enter_all.new.lists.entries c.args.kept.now.entries c.enter_all.ensures.others c.requires

pub returns-in_err-insert-clause-listed : goal.returns-in_err-insert-clause-listed
returns-in_err-insert-clause-listed c =
    rw c.in_err-insert.ensures.err
    (listed_more c.args.lists.now.entries c.enter_all.new.lists.entries c.args.kept.now.entries c.enter_all.ensures.others c.requires)
