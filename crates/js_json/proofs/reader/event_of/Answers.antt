use Rattle.std.proofs.Common.{◌≡◌, rules, sym, Some, ◌∙◌, ap, option_map}
use Rattle.js_json.specs.Json.{event_from}
use Rattle.js_data.specs.Event.{PlainEvent}
use Rattle.js_data.specs.Views.{plain_data}
use Rattle.serde_json.specs.View.{view}
use Rattle.serde_json.specs.Errors.{IsMemory}
use Rattle.js_json.proofs.Reading.{refused, accepted}
use Rattle.js_json.proofs.Ordered.{sorted_read}
use Rattle.js_json.proofs.reader.event_of.Goals as goal

pub new-requires : goal.new-requires
new-requires c =
    let e : PlainEvent = record { name = c.in-Some.name; extra = option_map plain_data c.in-Some.extra } in
    let f : event_from (view c.in-Ok.json) ≡ Some e = sym (rw c.in-Some.is at c.in_ok-parts_of.ensures) in
    sorted_read c.args.bytes.now (view c.in-Ok.json) e c.in-Ok.ensures.ok.1 f

pub returns-else-is_memory-clause-not_event : goal.returns-else-is_memory-clause-not_event
returns-else-is_memory-clause-not_event c _ =
    let other : ¬ (IsMemory c.in-Err.error) = search rules in
    refused c.args.bytes.now (c.in-Err.ensures.err other)

pub returns-in-Ok-new-clause-event : goal.returns-in-Ok-new-clause-event
returns-in-Ok-new-clause-event c =
    let e : PlainEvent = record { name = c.in-Some.name; extra = option_map plain_data c.in-Some.extra } in
    let f : event_from (view c.in-Ok.json) ≡ Some e = sym (rw c.in-Some.is at c.in_ok-parts_of.ensures) in
    let same : c.in-Ok-new.event ≡ e = c.in-Ok-new.ensures.made in
    accepted c.args.bytes.now (view c.in-Ok.json) c.in-Ok-new.event c.in-Ok.ensures.ok.0 c.in-Ok.ensures.ok.1 (f ∙ ap Some (sym same)) c.keeps.ensures
