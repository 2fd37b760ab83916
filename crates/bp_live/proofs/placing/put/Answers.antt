use Rattle.std.proofs.Common.{◌∙◌, ◌≤◌, List, length, map, get_or, ap, sym, arith, slice_get}
use Rattle.bp_live.specs.declared.stated.Stated.{Stated}
use Rattle.bp_live.specs.Lists.{gap, live_in}
use Rattle.bp_live.specs.Lives.{live_of}
use Rattle.bp_live.specs.Numbers.{place_in, is_number}
use Rattle.bp_live.proofs.Leaving.{at_within, count_gap, put_over, put_over_counted, put_more, put_more_counted}
use Rattle.bp_live.proofs.Putting.{place_within}
use Rattle.bp_live.proofs.placing.put.Goals as goal

pub overflow_sub-gone : goal.overflow_sub-gone
overflow_sub-gone c =
    let x = c.args.stated in
    let is = sym (c.is_at.ensures ∙ ap (λ (ts : List Stated). is_number x.number (slice_get (map live_of ts) c.args.at)) c.as_slice.ensures.value) ∙ c.if-is_at.true in
    count_gap c.args.items.now.items c.args.gone.now c.args.at c.requires.counted x x c.gap_at.result c.requires.here is
    (c.gap_at.ensures x ∙ ap (λ (ts : List Stated). gap (get_or ts c.args.at x)) c.as_slice-then-is_at.ensures.value)

pub index_mut-requires : goal.index_mut-requires
index_mut-requires c =
    let low = at_within c.args.stated.number c.args.at c.as_slice.result.now (sym c.is_at.ensures ∙ c.if-is_at.true) in
    let len = c.as_slice.ensures.len in
    omega (arith, low, len)

pub returns-then-is_at-clause-put : goal.returns-then-is_at-clause-put
returns-then-is_at-clause-put c =
    let x = c.args.stated in
    put_over c.args.items.now.items c.args.gone.now c.args.at c.requires.counted x x c.requires.here c.requires.at
    (sym (c.is_at.ensures ∙ ap (λ (ts : List Stated). is_number x.number (slice_get (map live_of ts) c.args.at)) c.as_slice.ensures.value) ∙ c.if-is_at.true)

pub returns-then-is_at-clause-counted : goal.returns-then-is_at-clause-counted
returns-then-is_at-clause-counted c =
    let x = c.args.stated in
    put_over_counted c.args.items.now.items c.args.gone.now c.args.at c.requires.counted x x c.gap_at.result c.requires.here c.requires.at
    (sym (c.is_at.ensures ∙ ap (λ (ts : List Stated). is_number x.number (slice_get (map live_of ts) c.args.at)) c.as_slice.ensures.value) ∙ c.if-is_at.true)
    (c.gap_at.ensures x ∙ ap (λ (ts : List Stated). gap (get_or ts c.args.at x)) c.as_slice-then-is_at.ensures.value)

pub insert-requires : goal.insert-requires
insert-requires c =
    let within : place_in c.args.stated.number (map live_of c.args.items.now.items) ≤ length c.args.items.now.items = place_within c.args.stated.number c.args.items.now.items in
    let at = c.requires.at in
    let len = c.args.items.now.ok.0 in
    omega (arith, within, at, len)

pub returns-clause-put : goal.returns-clause-put
returns-clause-put c =
    let x = c.args.stated in
    ap (λ (ts : List Stated). live_in ts) c.in_ok-insert.ensures.items
    ∙ put_more c.args.items.now.items c.args.gone.now c.args.at c.requires.counted x c.requires.here c.requires.at
    (sym (c.is_at.ensures ∙ ap (λ (ts : List Stated). is_number x.number (slice_get (map live_of ts) c.args.at)) c.as_slice.ensures.value) ∙ c.if-is_at.false)

pub returns-clause-counted : goal.returns-clause-counted
returns-clause-counted c =
    let x = c.args.stated in
    rw c.in_ok-insert.ensures.items
    (put_more_counted c.args.items.now.items c.args.gone.now c.args.at c.requires.counted x c.requires.here c.requires.at
    (sym (c.is_at.ensures ∙ ap (λ (ts : List Stated). is_number x.number (slice_get (map live_of ts) c.args.at)) c.as_slice.ensures.value) ∙ c.if-is_at.false))
