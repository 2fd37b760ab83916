use Rattle.std.proofs.Common.{◌≡◌, ◌⊎◌, ◌<◌, ℕ, List, true, get_or, length, subst, sym}
use Rattle.bp_roll.specs.Rolls.{is_in}
use Rattle.bp_live.specs.declared.stated.Stated.{Stated}
use Rattle.bp_select.specs.inner.Heeding.{Stays}
use Rattle.bp_live.specs.Lives.{live_of}
use Rattle.bp_select.proofs.TallyLemmas.{not_true, own_each}
use Rattle.bp_select.proofs.tally.is_own.Goals as goal

pub returns : goal.returns
returns c = λ h.
    own_each c.args.number c.args.event.now c.args.live.now c.as_slice.result.now
    (λ i d low w. c.is_requested_among.ensures (not_true c.is_requested_among.result h) i d low w)
    (subst (λ (xs : List ℕ). (i : ℕ) (d : Stated) → i < length c.args.live.now → (is_in i xs ≡ true) ⊎ Stays c.args.event.now (live_of (get_or c.args.live.now i d))) (sym c.as_slice.ensures.value) c.in_ok-places.ensures.others)
