use Rattle.std.proofs.Common.{◌∙◌, ℕ, List, ◌++◌, ◌∷◌, [], ap}
use Rattle.std.specs.List.{list_any}
use Rattle.std.proofs.lemmas.List.{take_all}
use Rattle.js_data.specs.Event.{PlainEvent, same_event}
use Rattle.bp_roll.specs.Rolls.{is_in}
use Rattle.bp_select.proofs.HeedLemmas.{events_step, in_pushed}
use Rattle.bp_select.proofs.keys.add_events.Goals as goal

pub loop-event-preserved : goal.loop-event-preserved
loop-event-preserved c =
    let pushed = c.in_ok-push.ensures.items ∙ ap (λ (k : ℕ). c.loop-event.keys.items ++ k ∷ []) c.hash_of.ensures in
    record {
      events =
          events_step c.args.events.now c.loop-event.event-index c.event-item.result c.loop-event.keys.items c.push.new.self.items
          c.loop-event-test.true c.event-item.is pushed c.loop-event.invariant.events;
      others = λ k h. ap (λ (ks : List ℕ). is_in k ks) c.in_ok-push.ensures.items ∙ in_pushed k c.hash_of.result c.loop-event.keys.items (c.loop-event.invariant.others k h);
    }

pub returns-clause-events : goal.returns-clause-events
returns-clause-events c = λ e h.
    c.loop-event.invariant.events e (ap (λ (es : List PlainEvent). list_any (same_event e) es) (take_all c.loop-event.event-index c.args.events.now c.loop-event-test.false) ∙ h)
