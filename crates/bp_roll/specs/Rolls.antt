-- Which numbers are noted at which keys.
use Rattle.std.specs.Prelude.{ℕ, Bool, nat_eq, List, []}
use Rattle.std.specs.List.{list_any}
use Rattle.std.specs.Map.{lookup}
use Rattle.std.specs.Option.{unwrap_or}

-- the numbers that are noted at each key
abbrev pub PlainRoll : Type 0
PlainRoll = List (ℕ × List ℕ)

-- whether n is one of them
abbrev pub is_in : ℕ → List ℕ → Bool
is_in n ns = list_any (nat_eq n) ns

abbrev pub numbers_at : PlainRoll → ℕ → List ℕ
numbers_at r k = unwrap_or (lookup (nat_eq k) r) []

-- whether n is noted at the key
abbrev pub is_noted : PlainRoll → ℕ → ℕ → Bool
is_noted r k n = is_in n (numbers_at r k)
