use Rattle.std.proofs.Common.{◌≡◌, ◌++◌, drop, string_bytes}
use Rattle.js_data.specs.JsonText.{event_text as text_of_event}
use Rattle.bp_explain.specs.Listed.{listed, listed_from}
use Rattle.bp_explain.proofs.standing.write_events.Given as goal

abbrev pub invariant-loop-event : goal.invariant-loop-event
invariant-loop-event l =
    string_bytes l.text ++ listed_from l.later text_of_event (drop l.event-index l.events) ≡ string_bytes l.initial.text ++ listed text_of_event l.events
