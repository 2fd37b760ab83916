use Rattle.std.proofs.Common.{◌∙◌, List, Option, Vec, length, map, ap, subst, sym}
use Rattle.std.specs.Prelude.{IfSome}
use Rattle.std.specs.declared.alloc.Global.{Global}
use Rattle.std.proofs.lemmas.List.{length-map}
use Rattle.js_frames.specs.Places.{plain_ground}
use Rattle.bp_known.specs.Known.{sets_in}
use Rattle.bp_live.specs.declared.stated.Stated.{Stated}
use Rattle.bp_live.specs.declared.candidate.Candidate.{Candidate}
use Rattle.bp_live.specs.Candidates.{event_of, events_in}
use Rattle.bp_live.specs.Lives.{live_of}
use Rattle.bp_select.specs.Tallies.{AreFreeOf}
use Rattle.bp_select.specs.inner.Counted.{IsAlone}
use Rattle.bp_select.proofs.HeedLemmas.{absent_each}
use Rattle.bp_live.proofs.Leaving.{at_within}
use Rattle.bp_select.proofs.TallyLemmas.{absent_counted, found_counted}
use Rattle.bp_select.proofs.tally.count_of.Goals as goal

pub returns-then-not-is_at-clause-counted : goal.returns-then-not-is_at-clause-counted
returns-then-not-is_at-clause-counted c =
    absent_counted (plain_ground c.args.ground.now) c.args.budget (sets_in c.args.blocks.now.sets) (map live_of c.args.live.now) c.args.number
    (absent_each c.args.number c.args.live.now c.place_of-at.result c.requires.ready.settled.order c.place_of-at.ensures (sym c.is_at.ensures ∙ c.if-not-is_at.true))

pub bounds-live-at : goal.bounds-live-at
bounds-live-at c = at_within c.args.number c.place_of-at.result c.args.live.now (sym c.is_at.ensures ∙ c.if-not-is_at.false)

pub returns-clause-counted : goal.returns-clause-counted
returns-clause-counted c =
    let live = c.args.live.now in
    let base = plain_ground c.args.ground.now in
    let sets = sets_in c.args.blocks.now.sets in
    let is = sym c.is_at.ensures ∙ c.if-not-is_at.false in
    let low = at_within c.args.number c.place_of-at.result live is in
    let x = c.index-live-at.result in
    let free = c.in-Some.free in
    let known = subst (λ (o : Option (Vec Candidate Global)). IfSome o (λ l. AreFreeOf base c.args.budget sets (live_of x) (events_in l.items))) c.in-Some.is c.in_ok-free.ensures.free in
    found_counted base c.args.budget sets live c.place_of-at.result c.args.number x (events_in free.items) (length c.as_slice.result.now) c.requires.ready.settled.order low is
    (subst (λ (s : Stated). AreFreeOf base c.args.budget sets (live_of s) (events_in free.items)) c.index-live-at.is known)
    (ap (λ (cs : List Candidate). length cs) c.as_slice.ensures.value ∙ sym (length-map free.items event_of))
    (subst (λ (s : Stated). IsAlone (map live_of live) (live_of s)) c.index-live-at.is (c.in_ok-alone.ensures c.if-not-alone.false))
