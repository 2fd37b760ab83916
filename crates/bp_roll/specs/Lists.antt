-- Lists of numbers by keys.
use Rattle.std.specs.Prelude.{◌≡◌, ℕ, Bool, true, nat_eq, List, [], map, Vec}
use Rattle.std.specs.Map.{lookup}
use Rattle.std.specs.Option.{option_map_or}
use Rattle.std.specs.declared.alloc.Global.{Global}
use Rattle.bp_roll.specs.Rolls.{PlainRoll, is_in}

abbrev pub Lists : Type 0
Lists = List (ℕ × Vec ℕ Global)

abbrev pub plain_lists : Lists → PlainRoll
plain_lists es = map (λ e. (e.0, e.1.items)) es

-- the items at the key
abbrev pub items_at : Lists → ℕ → List ℕ
items_at es k = option_map_or (λ v. v.items) (lookup (nat_eq k) es) []

-- whether n is in the list of the key
abbrev pub is_listed : Lists → ℕ → ℕ → Bool
is_listed es k n = is_in n (items_at es k)

-- each number is listed at the keys that are kept of it
abbrev pub AreListed : Lists → Lists → Type 0
AreListed lists kept = (n k : ℕ) → is_in k (items_at kept n) ≡ true → is_listed lists k n ≡ true
