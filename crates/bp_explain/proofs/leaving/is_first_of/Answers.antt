use Rattle.std.proofs.Common.{◌≡◌, ◌∙◌, ◌<◌, Bool, false, List, length, get_or, find, ap, sym, subst, Option, Some, None}
use Rattle.std.specs.List.{list_any}
use Rattle.js_data.specs.Event.{PlainEvent, same_event}
use Rattle.bp_live.proofs.Firsts.{found_here, found_later}
use Rattle.bp_explain.specs.Stops.{live_of}
use Rattle.bp_explain.proofs.leaving.is_first_of.Goals as goal

abbrev same_as : PlainEvent → Option PlainEvent → Bool
same_as e o = elim o [ None ↦ false | Some r ↦ same_event r e ]

pub returns-then-is_among : goal.returns-then-is_among
returns-then-is_among c =
    let q = c.as_slice-request-items.ensures in
    let i = c.loop-request.request-index in
    let r = c.request-item.result in
    let asked = (live_of c.args.stop.now).statement.request in
    let among = λ (x : PlainEvent). list_any (same_event x) c.args.inner.now in
    c.same.ensures.same
    ∙ ap (same_as c.args.event.now)
    (found_here among asked i r (find among asked) (subst (λ (xs : List PlainEvent). i < length xs) q c.loop-request-test.true) (subst (λ (xs : List PlainEvent). r ≡ get_or xs i r) q c.request-item.is)
    (sym c.is_among.ensures ∙ c.if-is_among.true) c.loop-request.invariant)

pub loop-request-preserved : goal.loop-request-preserved
loop-request-preserved c =
    let q = c.as_slice-request-items.ensures in
    let i = c.loop-request.request-index in
    let r = c.request-item.result in
    let asked = (live_of c.args.stop.now).statement.request in
    let among = λ (x : PlainEvent). list_any (same_event x) c.args.inner.now in
    found_later among asked i r (find among asked) (subst (λ (xs : List PlainEvent). i < length xs) q c.loop-request-test.true) (subst (λ (xs : List PlainEvent). r ≡ get_or xs i r) q c.request-item.is)
    (sym c.is_among.ensures ∙ c.if-is_among.false) c.loop-request.invariant
