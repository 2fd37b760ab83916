use Rattle.std.proofs.Common.{List, map, subst, sym}
use Rattle.std.specs.Borrow.{Bor}
use Rattle.js_frames.specs.Places.{plain_ground}
use Rattle.bp_live.specs.declared.stated.Stated.{Stated}
use Rattle.bp_live.specs.Lives.{live_of, lent}
use Rattle.bp_select.specs.inner.Parts.{IsPart, blocks_nothing}
use Rattle.bp_select.proofs.PartLemmas.{of_part, order_part}
use Rattle.bp_select.proofs.Readiness.{ready_after}
use Rattle.bp_select.proofs.tally.learn.Goals as goal

pub unblocked-asked-requires-clause-order : goal.unblocked-asked-requires-clause-order
unblocked-asked-requires-clause-order c =
    let live = map live_of c.args.live.now in
    order_part blocks_nothing (map lent c.as_slice-blocking.result.now) live
    (subst (λ (xs : List (Bor Stated)). IsPart blocks_nothing (map lent xs) live) (sym c.as_slice-blocking.ensures.value) c.in_ok-blocking.ensures) c.requires.ready.settled.order

pub unblocked-asked-requires-clause-sets : goal.unblocked-asked-requires-clause-sets
unblocked-asked-requires-clause-sets c =
    let live = map live_of c.args.live.now in
    of_part (map lent c.as_slice-blocking.result.now) live _
    (subst (λ (xs : List (Bor Stated)). IsPart blocks_nothing (map lent xs) live) (sym c.as_slice-blocking.ensures.value) c.in_ok-blocking.ensures) c.requires.ready.settled.order c.requires.ready.settled.sets

pub unblocked-asked-requires-clause-known : goal.unblocked-asked-requires-clause-known
unblocked-asked-requires-clause-known c = c.requires.ready.settled.known

pub returns-clause-ready : goal.returns-clause-ready
returns-clause-ready c =
    ready_after (plain_ground c.args.ground.now) c.args.budget (map live_of c.args.live.now) c.args.blocks.now c.unblocked-asked.new.self c.unblocked-asked.ensures.sets c.unblocked-asked.ensures.known
    c.args.roll.now c.requires.ready
