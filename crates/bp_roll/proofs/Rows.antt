-- Rolls, computed.
use Rattle.std.proofs.Common.{◌≡◌, true, false, [], ◌∷◌, refl}
use Rattle.bp_roll.specs.Rolls.{PlainRoll, is_noted, numbers_at}

abbrev roll : PlainRoll
roll = (7, 1 ∷ 3 ∷ []) ∷ (9, 3 ∷ []) ∷ []

numbers : numbers_at roll 7 ≡ 1 ∷ 3 ∷ []
numbers = refl

nobody : numbers_at roll 8 ≡ []
nobody = refl

one : is_noted roll 9 3 ≡ true
one = refl

other : is_noted roll 9 1 ≡ false
other = refl
