use Rattle.std.proofs.Common.{◌≡◌, ◌||◌, drop}
use Rattle.std.specs.List.{list_any}
use Rattle.js_data.specs.Event.{PlainEvent, same_event}
use Rattle.bp_live.specs.Candidates.{events_in, is_among}
use Rattle.bp_live.proofs.choosing.keys.Given as goal

abbrev pub invariant-loop-candidate : goal.invariant-loop-candidate
invariant-loop-candidate l =
    (e : PlainEvent) → (is_among l.events e || list_any (same_event e) (events_in (drop l.candidate-index l.candidates))) ≡ list_any (same_event e) (events_in l.candidates)
