use Rattle.std.proofs.Common.{◌≡◌, ◌<◌, ℕ, true, get_or, length, take}
use Rattle.bp_roll.specs.Rolls.{is_in}
use Rattle.bp_live.specs.declared.stated.Stated.{Stated}
use Rattle.bp_live.specs.Lives.{live_of}
use Rattle.bp_select.proofs.TallyLemmas.{OthersPass}
use Rattle.bp_select.proofs.tally.is_requested_among.Given as goal

abbrev pub invariant-loop-place : goal.invariant-loop-place
invariant-loop-place l =
    (i : ℕ) (d : Stated) → i < length l.live → is_in i (take l.place-index l.places) ≡ true → OthersPass l.number l.event (live_of (get_or l.live i d))
