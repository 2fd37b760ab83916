use Rattle.std.proofs.Common.{◌≡◌, ◌<◌, ◌∙◌, List, length, get_or, find, subst, sym}
use Rattle.js_data.specs.Event.{PlainEvent}
use Rattle.bp_live.specs.Candidates.{is_among}
use Rattle.bp_live.proofs.Firsts.{found_here, found_later}
use Rattle.bp_live.proofs.choosing.first_among.Goals as goal

pub returns-then-contains : goal.returns-then-contains
returns-then-contains c =
    let q = c.as_slice-request-items.ensures in
    let i = c.loop-request.request-index in
    let r = c.request-item.result in
    let rs = c.args.stated.now.statement.request in
    found_here (is_among c.args.events.now) rs i r (find (is_among c.args.events.now) rs)
    (subst (λ (xs : List PlainEvent). i < length xs) q c.loop-request-test.true) (subst (λ (xs : List PlainEvent). r ≡ get_or xs i r) q c.request-item.is)
    (sym c.contains.ensures ∙ c.if-contains.true) c.loop-request.invariant

pub loop-request-preserved : goal.loop-request-preserved
loop-request-preserved c =
    let q = c.as_slice-request-items.ensures in
    let i = c.loop-request.request-index in
    let r = c.request-item.result in
    let rs = c.args.stated.now.statement.request in
    found_later (is_among c.args.events.now) rs i r (find (is_among c.args.events.now) rs)
    (subst (λ (xs : List PlainEvent). i < length xs) q c.loop-request-test.true) (subst (λ (xs : List PlainEvent). r ≡ get_or xs i r) q c.request-item.is)
    (sym c.contains.ensures ∙ c.if-contains.false) c.loop-request.invariant
