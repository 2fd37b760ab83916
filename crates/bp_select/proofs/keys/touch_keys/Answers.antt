use Rattle.std.proofs.Common.{◌∙◌, List, ap}
use Rattle.std.specs.List.{list_any}
use Rattle.js_data.specs.Event.{PlainEvent, same_event}
use Rattle.bp_live.specs.Lives.{live_of}
use Rattle.bp_select.proofs.HeedLemmas.{keys_more, touched_keys}
use Rattle.bp_select.proofs.keys.touch_keys.Goals as goal

pub returns : goal.returns
returns c =
    let t = live_of c.args.stated.now in
    let ks = c.add_events.new.keys.items in
    touched_keys t ks
    (keys_more t.statement.wait_for c.add_stated.new.keys.items ks (λ k h. c.add_events.ensures.others k (c.add_stated-2.ensures.others k h)) (c.in_ok-waits.ensures.set c.if-not-waits.false))
    (keys_more t.statement.interrupt c.add_stated-2.new.keys.items ks c.add_events.ensures.others (c.in_ok-interrupts.ensures.set c.if-not-interrupts.false))
    (λ e h. c.in_ok-add_events.ensures.events e (ap (λ (es : List PlainEvent). list_any (same_event e) es) c.as_slice.ensures ∙ h))
