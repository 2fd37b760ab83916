use Rattle.std.proofs.Common.{◌≡◌, ◌<◌, ℕ, true, get_or, length, take}
use Rattle.bp_roll.specs.Rolls.{is_in}
use Rattle.bp_live.specs.declared.stated.Stated.{Stated}
use Rattle.bp_select.proofs.heeds.add_places.Given as goal

abbrev pub invariant-loop-number : goal.invariant-loop-number
invariant-loop-number l = record {
  there : (i : ℕ) (d : Stated) → i < length l.live → is_in (get_or l.live i d).number (take l.number-index l.numbers) ≡ true → is_in i l.places.items ≡ true;
  others : (i : ℕ) → is_in i l.initial.places.items ≡ true → is_in i l.places.items ≡ true;
}
