use Rattle.std.proofs.Common.{◌≡◌, ◌+◌, ◌∙◌, ◌<◌, ℕ, Some, ap, map, slice_get, subst, sym, take}
use Rattle.std.specs.Prelude.{IfOk, IfSome, sum}
use Rattle.js_frames.specs.Places.{plain_ground}
use Rattle.bp_meaning.specs.Membership.{member}
use Rattle.bp_roll.specs.Counting.{count_at}
use Rattle.bp_live.specs.Lives.{live_of}
use Rattle.bp_select.specs.inner.Counted.{all_free}
use Rattle.bp_select.proofs.tally.event_at.Goals as goal

pub returns-clause-event : goal.returns-clause-event
returns-clause-event c =
    let counts = c.args.counts.now in
    let place = c.in-Some.spot.place in
    let m = c.in-Some-number_of.ensures in
    let s = c.in-Some.ensures.spot in
    subst (λ (k : ℕ). IfOk c.event_of.result (λ o. IfSome o (λ e. slice_get (all_free (member (plain_ground c.args.ground.now) c.args.budget) (map live_of c.args.live.now)) k ≡ Some e)))
    (ap (λ (k : ℕ). sum (take k counts) + place) m ∙ s.0)
    (c.event_of.ensures.event counts c.requires.tallied (subst (λ (k : ℕ). place < count_at counts k) (sym m) s.1))
