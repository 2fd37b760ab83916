use Rattle.std.proofs.Common.{map, sym, subst}
use Rattle.js_frames.specs.Places.{plain_ground}
use Rattle.bp_known.specs.Known.{IsKnown, sets_in}
use Rattle.bp_live.specs.Lives.{lent}
use Rattle.bp_known.specs.declared.known.Known.{Known}
use Rattle.bp_select.proofs.Telling.{blocked_by_one, free_of_all}
use Rattle.bp_select.proofs.block_sets.Blocks.is_blocked.Goals as goal

pub returns-in-Free-clause-blocked : goal.returns-in-Free-clause-blocked
returns-in-Free-clause-blocked c =
    let base = plain_ground c.args.ground.now in
    let sets = sets_in c.args.self.now.sets in
    free_of_all base c.args.budget c.args.event.now sets (map lent c.args.blocking.now) c.requires.order c.requires.sets
    (subst (λ (k : Known). IsKnown base c.args.budget sets c.args.event.now k) c.in-Free.is (c.known.ensures base c.args.budget sets c.requires.known))

pub returns-in-Blocked-clause-blocked : goal.returns-in-Blocked-clause-blocked
returns-in-Blocked-clause-blocked c =
    let base = plain_ground c.args.ground.now in
    let sets = sets_in c.args.self.now.sets in
    blocked_by_one base c.args.budget c.args.event.now sets (map lent c.args.blocking.now) c.in-Blocked.field-0 c.requires.order c.requires.sets
    (subst (λ (k : Known). IsKnown base c.args.budget sets c.args.event.now k) c.in-Blocked.is (c.known.ensures base c.args.budget sets c.requires.known))

pub returns-in_ok-by-in-Unknown-clause-known : goal.returns-in_ok-by-in-Unknown-clause-known
returns-in_ok-by-in-Unknown-clause-known c =
    let base = plain_ground c.args.ground.now in
    let sets = sets_in c.args.self.now.sets in
    c.note.ensures.known base c.args.budget sets
    (subst (λ (k : Known). IsKnown base c.args.budget sets c.args.event.now k) (sym c.known_by.ensures) (c.in_ok-by-in-Unknown.ensures.known sets c.requires.sets)) c.requires.known
