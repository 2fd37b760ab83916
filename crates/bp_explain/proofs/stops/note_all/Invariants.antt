use Rattle.std.proofs.Common.{◌≡◌, drop}
use Rattle.bp_explain.specs.Stops.{live_of}
use Rattle.bp_explain.specs.inner.Lists.{with_all}
use Rattle.bp_explain.proofs.stops.note_all.Given as goal

abbrev pub invariant-loop-event : goal.invariant-loop-event
invariant-loop-event l =
    let asked = (live_of l.stop).statement.request in
    with_all l.events.items (drop l.event-index asked) ≡ with_all l.initial.events.items asked
