use Rattle.std.proofs.Common.{◌≡◌, ℕ, false, nat_eq, true}
use Rattle.bp_roll.specs.Lists.{is_listed}
use Rattle.bp_roll.proofs.roll.leave_all.Given as goal

abbrev pub invariant-loop-key : goal.invariant-loop-key
invariant-loop-key l = (k n : ℕ) → nat_eq n l.number ≡ false → is_listed l.initial.lists.entries k n ≡ true → is_listed l.lists.entries k n ≡ true
