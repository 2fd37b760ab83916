use Rattle.std.proofs.Common.{◌≡◌, ℕ, true, take}
use Rattle.bp_roll.specs.Rolls.{is_in}
use Rattle.bp_roll.specs.Lists.{is_listed}
use Rattle.bp_roll.proofs.roll.enter_all.Given as goal

abbrev pub invariant-loop-key : goal.invariant-loop-key
invariant-loop-key l = record {
  there : (k : ℕ) → is_in k (take l.key-index l.keys) ≡ true → is_listed l.lists.entries k l.number ≡ true;
  others : (k n : ℕ) → is_listed l.initial.lists.entries k n ≡ true → is_listed l.lists.entries k n ≡ true;
}
