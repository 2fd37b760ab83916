use Rattle.std.proofs.Common.{◌≡◌, ◌<◌, ◌≤◌, List, get_or, length, map, subst}
use Rattle.js_data.specs.Event.{PlainEvent}
use Rattle.bp_live.specs.Lives.{live_of}
use Rattle.bp_select.proofs.TallyLemmas.{alone_last, alone_step}
use Rattle.bp_select.proofs.tally.is_alone.Goals as goal

pub loop-event-preserved : goal.loop-event-preserved
loop-event-preserved c =
    let q = c.as_slice-event-items.ensures in
    let i = c.loop-event.event-index in
    let e = c.event-item.result in
    alone_step c.args.stated.now.number (live_of c.args.stated.now).statement.request i e (map live_of c.args.live.now)
    (subst (λ (xs : List PlainEvent). i < length xs) q c.loop-event-test.true) (subst (λ (xs : List PlainEvent). e ≡ get_or xs i e) q c.event-item.is)
    (c.in_ok-own.ensures c.if-not-own.false) c.loop-event.invariant

pub returns : goal.returns
returns c = λ h.
    let i = c.loop-event.event-index in
    alone_last (live_of c.args.stated.now) i (map live_of c.args.live.now) (subst (λ (xs : List PlainEvent). length xs ≤ i) c.as_slice-event-items.ensures c.loop-event-test.false) c.loop-event.invariant
