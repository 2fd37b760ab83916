use Rattle.std.proofs.Common.{◌≡◌, ℕ, ◌<◌, ◌||◌, false, length, get_or, drop}
use Rattle.bp_check.specs.Tops.{has}
use Rattle.bp_check.proofs.tops.mark.Given as goal

abbrev pub invariant-loop-number : goal.invariant-loop-number
invariant-loop-number l =
    (k : ℕ) → k < length l.initial.marks → (get_or l.initial.marks k false || has l.numbers k) ≡ (get_or l.marks k false || has (drop l.number-index l.numbers) k)
