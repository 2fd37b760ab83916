-- Numbers: 0, a digit from 1 to 9 and digits, and 0x, 0o, 0b (or the capital letter) with digits of that
-- base.
use Rattle.std.specs.Prelude.{ℕ, suc, ◌+◌, ◌-◌, ◌*◌, nat_eq, nat_le, nat_lt, Bool, false, ◌&&◌, ◌||◌, List, [], ◌∷◌, drop, if◌then◌else◌}
use Rattle.js_lexer.specs.Characters.{dot, digit_0, capital_a, capital_b, capital_e, capital_f, capital_o, capital_x, underscore, small_a, small_b, small_e, small_f, small_n, small_o, small_x}
use Rattle.js_lexer.specs.Bytes.{is_digit}

-- the value of a digit of up to 16, and 16 for any other byte
abbrev pub digit_value : ℕ → ℕ
digit_value b =
    if is_digit b then b - digit_0 else (
    if nat_le small_a b && nat_le b small_f then b - 87 else (
    if nat_le capital_a b && nat_le b capital_f then b - 55 else 16))

abbrev pub is_digit_of : ℕ → ℕ → Bool
is_digit_of base b = nat_lt (digit_value b) base

-- how many digits of the base stand in front
abbrev pub digits_size : ℕ → List ℕ → ℕ
digits_size base [] = 0
digits_size base (b ∷ bs) = if is_digit_of base b then suc (digits_size base bs) else 0

-- the number that they are, after digits that are `value`
abbrev pub digits_value : ℕ → ℕ → List ℕ → ℕ
digits_value base value [] = value
digits_value base value (b ∷ bs) =
    if is_digit_of base b then digits_value base (base * value + digit_value b) bs else value

-- 0, one of two letters, and at least one digit of the base
abbrev pub has_base : ℕ → ℕ → ℕ → List ℕ → Bool
has_base base small capital (z ∷ (l ∷ (d ∷ bs))) =
    nat_eq z digit_0 && (nat_eq l small || nat_eq l capital) && is_digit_of base d
has_base base small capital _ = false

-- the base that the bytes in front say
abbrev pub base_of : List ℕ → ℕ
base_of bs =
    if has_base 16 small_x capital_x bs then 16 else (
    if has_base 8 small_o capital_o bs then 8 else (
    if has_base 2 small_b capital_b bs then 2 else 10))

-- 0 stands alone
abbrev pub decimal_size : List ℕ → ℕ
decimal_size [] = 0
decimal_size (b ∷ bs) = if nat_eq b digit_0 then 1 else digits_size 10 (b ∷ bs)

abbrev pub decimal_value : List ℕ → ℕ
decimal_value [] = 0
decimal_value (b ∷ bs) = if nat_eq b digit_0 then 0 else digits_value 10 0 (b ∷ bs)

abbrev pub number_size : List ℕ → ℕ
number_size bs = if nat_eq (base_of bs) 10 then decimal_size bs
    else 2 + digits_size (base_of bs) (drop 2 bs)

abbrev pub number_value : List ℕ → ℕ
number_value bs = if nat_eq (base_of bs) 10 then decimal_value bs
    else digits_value (base_of bs) 0 (drop 2 bs)

-- what makes a number directly before it unsupported: . _ n, and after a decimal one e E and digits
abbrev pub is_unsupported_end : ℕ → ℕ → Bool
is_unsupported_end base b =
    nat_eq b dot || nat_eq b underscore || nat_eq b small_n
    || (nat_eq base 10 && (nat_eq b small_e || nat_eq b capital_e || is_digit b))
