use Rattle.std.proofs.Common.{◌≡◌, ℕ, true, take}
use Rattle.std.specs.List.{list_any}
use Rattle.js_data.specs.Event.{PlainEvent, same_event}
use Rattle.bp_roll.specs.Rolls.{is_in}
use Rattle.bp_roll.specs.Feeding.{event_key}
use Rattle.bp_select.proofs.keys.add_events.Given as goal

abbrev pub invariant-loop-event : goal.invariant-loop-event
invariant-loop-event l = record {
  events : (e : PlainEvent) → list_any (same_event e) (take l.event-index l.events) ≡ true → is_in (event_key e) l.keys.items ≡ true;
  others : (k : ℕ) → is_in k l.initial.keys.items ≡ true → is_in k l.keys.items ≡ true;
}
