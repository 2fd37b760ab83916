use Rattle.std.proofs.Common.{◌∙◌, List, map, get_or, ap, sym, refl, arith, slice_get}
use Rattle.bp_live.specs.declared.stated.Stated.{Stated}
use Rattle.bp_live.specs.Lists.{gap}
use Rattle.bp_live.specs.Lives.{live_of}
use Rattle.bp_live.specs.Numbers.{is_number}
use Rattle.bp_live.proofs.Leaving.{at_within, gap_most_at, gone_most, none_live, taken, taken_counted}
use Rattle.bp_live.proofs.placing.take_away.Goals as goal

pub overflow_sub-gone : goal.overflow_sub-gone
overflow_sub-gone c =
    let most = gap_most_at c.as_slice-then-is_at.result.now c.args.at c.gap_at.result c.gap_at.ensures (at_within c.args.number c.args.at c.as_slice-then-is_at.result.now (sym (c.is_at.ensures ∙ ap (λ (ts : List Stated). is_number c.args.number (slice_get (map live_of ts) c.args.at)) (c.as_slice.ensures.value ∙ sym c.as_slice-then-is_at.ensures.value)) ∙ c.if-is_at.true)) in
    omega (arith, most)

pub overflow_add-gone : goal.overflow_add-gone
overflow_add-gone c =
    let most = gap_most_at c.as_slice-then-is_at.result.now c.args.at c.gap_at.result c.gap_at.ensures (at_within c.args.number c.args.at c.as_slice-then-is_at.result.now (sym (c.is_at.ensures ∙ ap (λ (ts : List Stated). is_number c.args.number (slice_get (map live_of ts) c.args.at)) (c.as_slice.ensures.value ∙ sym c.as_slice-then-is_at.ensures.value)) ∙ c.if-is_at.true)) in
    let all = gone_most c.args.items.now.items in
    let g = c.requires.counted.gone in
    let len = c.args.items.now.ok.0 in
    omega (arith, most, all, g, len)

pub index_mut-requires : goal.index_mut-requires
index_mut-requires c =
    let low = at_within c.args.number c.args.at c.as_slice.result.now (sym c.is_at.ensures ∙ c.if-is_at.true) in
    let len = c.as_slice.ensures.len in
    omega (arith, low, len)

pub returns-then-is_at-clause-taken : goal.returns-then-is_at-clause-taken
returns-then-is_at-clause-taken c =
    taken c.args.items.now.items c.args.gone.now c.args.at c.requires.counted c.args.number _ refl c.requires.at
    (sym (c.is_at.ensures ∙ ap (λ (ts : List Stated). is_number c.args.number (slice_get (map live_of ts) c.args.at)) c.as_slice.ensures.value) ∙ c.if-is_at.true)

pub returns-then-is_at-clause-counted : goal.returns-then-is_at-clause-counted
returns-then-is_at-clause-counted c =
    let d = c.index_mut.result.now in
    taken_counted c.args.items.now.items c.args.gone.now c.args.at c.args.number _ d c.gap_at.result c.requires.counted refl (ap live_of c.index_mut.ensures.value)
    (sym (c.is_at.ensures ∙ ap (λ (ts : List Stated). is_number c.args.number (slice_get (map live_of ts) c.args.at)) c.as_slice.ensures.value) ∙ c.if-is_at.true)
    (c.gap_at.ensures d ∙ ap (λ (ts : List Stated). gap (get_or ts c.args.at d)) c.as_slice-then-is_at.ensures.value)

pub returns-else-is_at-clause-taken : goal.returns-else-is_at-clause-taken
returns-else-is_at-clause-taken c =
    none_live c.args.number c.args.items.now.items c.args.at c.requires.counted.order c.requires.at
    (sym (c.is_at.ensures ∙ ap (λ (ts : List Stated). is_number c.args.number (slice_get (map live_of ts) c.args.at)) c.as_slice.ensures.value) ∙ c.if-is_at.false)
