use Rattle.std.proofs.Common.{◌≡◌, ◌<◌, ◌≤◌, List, length, get_or, subst}
use Rattle.js_data.specs.Event.{PlainEvent}
use Rattle.bp_explain.specs.Stops.{live_of}
use Rattle.bp_explain.proofs.Noted.{event_step, event_last}
use Rattle.bp_explain.proofs.stops.note_all.Goals as goal

pub loop-event-preserved : goal.loop-event-preserved
loop-event-preserved c =
    let q = c.as_slice-event-items.ensures in
    let i = c.loop-event.event-index in
    let e = c.event-item.result in
    let asked = (live_of c.args.stop.now).statement.request in
    event_step asked i e c.loop-event.events.items c.note.new.events.items _ (subst (λ (xs : List PlainEvent). i < length xs) q c.loop-event-test.true) (subst (λ (xs : List PlainEvent). e ≡ get_or xs i e) q c.event-item.is)
    c.in_ok-note.ensures c.loop-event.invariant

pub returns : goal.returns
returns c =
    let asked = (live_of c.args.stop.now).statement.request in
    event_last asked c.loop-event.event-index c.loop-event.events.items _ (subst (λ (xs : List PlainEvent). length xs ≤ c.loop-event.event-index) c.as_slice-event-items.ensures c.loop-event-test.false) c.loop-event.invariant
