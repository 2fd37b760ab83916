use Rattle.std.proofs.Common.{◌≡◌, Option, Some, map, nat_lt, refl, slice_get, subst}
use Rattle.std.specs.Prelude.{IfSome}
use Rattle.js_data.specs.Event.{PlainEvent}
use Rattle.js_frames.specs.Places.{plain_ground}
use Rattle.bp_draw.specs.Words.{draw_word}
use Rattle.bp_meaning.specs.Membership.{member}
use Rattle.bp_known.specs.Known.{sets_in}
use Rattle.bp_live.specs.Lives.{live_of}
use Rattle.bp_select.specs.inner.Counted.{all_free}
use Rattle.bp_select.proofs.TallyLemmas.{picked}
use Rattle.bp_select.proofs.tally.pick_of.Goals as goal

pub returns-in-Some-2-clause-picked : goal.returns-in-Some-2-clause-picked
returns-in-Some-2-clause-picked c = λ queue.
    let base = plain_ground c.args.ground.now in
    let place = c.drawn_place-place.result in
    picked base c.args.budget (sets_in c.args.blocks.now.sets) c.args.live.now c.requires.ready.settled.order c.requires.ready.settled.sets c.args.counts.now c.requires.tallied (draw_word c.args.draw.now.seed) c.args.draw.now.drawn c.in-Some.total place
    (nat_lt 1 c.in-Some.total) c.in-Some-2.event queue c.in-Some.ensures.total c.if-total-eq0.false c.drawn_place-place.ensures refl
    (subst (λ (o : Option PlainEvent). IfSome o (λ e. slice_get (all_free (member base c.args.budget) (map live_of c.args.live.now)) place ≡ Some e)) c.in-Some-2.is c.in_ok-event_at.ensures.event)
