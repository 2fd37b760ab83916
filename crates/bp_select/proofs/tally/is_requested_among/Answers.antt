use Rattle.std.proofs.Common.{◌∙◌, ◌<◌, ℕ, List, ap, get_or, length}
use Rattle.std.proofs.lemmas.List.{take_all}
use Rattle.bp_roll.specs.Rolls.{is_in}
use Rattle.bp_live.specs.declared.stated.Stated.{Stated}
use Rattle.bp_live.specs.Lives.{live_of}
use Rattle.bp_select.proofs.TallyLemmas.{OthersPass, among_step}
use Rattle.bp_select.proofs.tally.is_requested_among.Goals as goal

pub loop-place-preserved : goal.loop-place-preserved
loop-place-preserved c = λ i d low h.
    among_step (λ j. (d : Stated) → j < length c.args.live.now → OthersPass c.args.number c.args.event.now (live_of (get_or c.args.live.now j d))) c.args.places.now c.loop-place.place-index c.loop-place-test.true
    (λ d low. c.is_requested_at.ensures c.if-is_requested_at.false low d) (λ j w d low. c.loop-place.invariant j d low w) i h d low

pub returns : goal.returns
returns c = λ e i d low h. c.loop-place.invariant i d low (ap (λ (ps : List ℕ). is_in i ps) (take_all c.loop-place.place-index c.args.places.now c.loop-place-test.false) ∙ h)
