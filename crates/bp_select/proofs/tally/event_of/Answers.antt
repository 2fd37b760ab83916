use Rattle.std.proofs.Common.{◌∙◌, List, Option, Vec, refl, subst, sym}
use Rattle.std.specs.Prelude.{IfSome}
use Rattle.std.specs.declared.alloc.Global.{Global}
use Rattle.js_frames.specs.Places.{plain_ground}
use Rattle.bp_known.specs.Known.{sets_in}
use Rattle.bp_live.specs.declared.candidate.Candidate.{Candidate}
use Rattle.bp_live.specs.Candidates.{events_in}
use Rattle.bp_live.specs.Lives.{live_of}
use Rattle.bp_select.specs.Tallies.{AreFreeOf}
use Rattle.bp_live.proofs.Leaving.{at_within}
use Rattle.bp_select.proofs.TallyLemmas.{event_when}
use Rattle.bp_select.proofs.tally.event_of.Goals as goal

pub bounds-live-at : goal.bounds-live-at
bounds-live-at c = at_within c.args.number c.place_of-at.result c.args.live.now (sym c.is_at.ensures ∙ c.if-not-is_at.false)

pub returns-clause-event : goal.returns-clause-event
returns-clause-event c = λ counts h less.
    let base = plain_ground c.args.ground.now in
    let sets = sets_in c.args.blocks.now.sets in
    let live = c.args.live.now in
    let is = sym c.is_at.ensures ∙ c.if-not-is_at.false in
    let x = c.index-live-at.result in
    let known = subst (λ (o : Option (Vec Candidate Global)). IfSome o (λ l. AreFreeOf base c.args.budget sets (live_of x) (events_in l.items))) c.in-Some.is c.in_ok-free.ensures.free in
    event_when base c.args.budget sets live c.requires.ready.settled.order c.requires.ready.settled.sets counts h c.place_of-at.result c.args.number c.args.place _ x (events_in c.as_slice.result.now) c.copy_at.result
    (at_within c.args.number c.place_of-at.result live is) is c.index-live-at.is
    (subst (λ (cs : List Candidate). AreFreeOf base c.args.budget sets (live_of x) (events_in cs)) (sym c.as_slice.ensures.value) known) less refl c.copy_at.ensures
