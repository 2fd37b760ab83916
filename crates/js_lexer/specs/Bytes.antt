-- The bytes of a program by class.
use Rattle.std.specs.Prelude.{ℕ, nat_eq, nat_le, Bool, ◌&&◌, ◌||◌, List}
use Rattle.std.specs.List.{starts_with}
use Rattle.js_lexer.specs.Characters.{double_quote, dollar, single_quote, digit_0, digit_9, capital_a, capital_z, underscore, small_a, small_z}

-- the text begins with these bytes
abbrev pub begins : List ℕ → List ℕ → Bool
begins bs front = starts_with nat_eq bs front

-- 0 to 9
abbrev pub is_digit : ℕ → Bool
is_digit b = nat_le digit_0 b && nat_le b digit_9

-- a to z, A to Z, _ and $
abbrev pub is_name_start : ℕ → Bool
is_name_start b =
    (nat_le small_a b && nat_le b small_z) || (nat_le capital_a b && nat_le b capital_z)
    || nat_eq b underscore || nat_eq b dollar

abbrev pub is_name_byte : ℕ → Bool
is_name_byte b = is_name_start b || is_digit b

-- ' and "
abbrev pub is_quote : ℕ → Bool
is_quote b = nat_eq b single_quote || nat_eq b double_quote
