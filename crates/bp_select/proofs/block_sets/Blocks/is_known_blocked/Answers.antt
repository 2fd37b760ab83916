use Rattle.std.proofs.Common.{subst}
use Rattle.bp_known.specs.declared.known.Known.{Known}
use Rattle.bp_known.specs.Known.{IsKnown, sets_in}
use Rattle.bp_select.proofs.Telling.{blocked_by_one, free_of_all}
use Rattle.bp_select.proofs.block_sets.Blocks.is_known_blocked.Goals as goal

pub returns-in-Free : goal.returns-in-Free
returns-in-Free c = λ base budget k ts o h.
    let sets = sets_in c.args.self.now.sets in
    free_of_all base budget c.args.event.now sets ts o h (subst (λ (x : Known). IsKnown base budget sets c.args.event.now x) c.in-Free.is (c.known.ensures base budget sets k))

pub returns-in-Blocked : goal.returns-in-Blocked
returns-in-Blocked c = λ base budget k ts o h.
    let sets = sets_in c.args.self.now.sets in
    blocked_by_one base budget c.args.event.now sets ts c.in-Blocked.field-0 o h (subst (λ (x : Known). IsKnown base budget sets c.args.event.now x) c.in-Blocked.is (c.known.ensures base budget sets k))
