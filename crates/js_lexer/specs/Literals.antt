-- Text literals and their escapes.
use Rattle.std.specs.Prelude.{ℕ, zero, suc, ◌+◌, ◌-◌, ◌*◌, nat_eq, nat_le, nat_lt, Bool, ◌&&◌, ◌||◌, List, [], ◌∷◌, ◌++◌, drop, encode_utf8, Option, Some, None, if◌then◌else◌}
use Rattle.js_lexer.specs.Characters.{backspace, tab, line_feed, vertical_tab, form_feed, carriage_return, digit_0, backslash, small_b, small_f, small_n, small_r, small_t, small_u, small_v, small_x, open_brace, close_brace}
use Rattle.js_lexer.specs.Bytes.{begins, is_digit}
use Rattle.js_lexer.specs.Gaps.{begins_separator}
use Rattle.js_lexer.specs.Numbers.{digit_value, is_digit_of, digits_size, digits_value}

-- LF and CR, which don't stand inside
abbrev pub is_break : ℕ → Bool
is_break b = nat_eq b line_feed || nat_eq b carriage_return

-- the number that two and four hexadecimal digits in front are
abbrev pub two_digits : List ℕ → Option ℕ
two_digits (a ∷ (b ∷ bs)) = if is_digit_of 16 a && is_digit_of 16 b
    then Some (16 * digit_value a + digit_value b) else None
two_digits _ = None

abbrev pub joined : Option ℕ → Option ℕ → Option ℕ
joined (Some high) (Some low) = Some (256 * high + low)
joined _ _ = None

abbrev pub four_digits : List ℕ → Option ℕ
four_digits bs = joined (two_digits bs) (two_digits (drop 2 bs))

-- the halves of a pair of surrogates, and the character that the pair is
abbrev pub is_high : ℕ → Bool
is_high n = nat_le 0xD800 n && nat_lt n 0xDC00

abbrev pub is_low : ℕ → Bool
is_low n = nat_le 0xDC00 n && nat_lt n 0xE000

abbrev pub paired : ℕ → ℕ → ℕ
paired high low = 0x1_0000 + 0x400 * (high - 0xD800) + (low - 0xDC00)

-- what an escape is: how many bytes of it stand after the backslash, and its character;
-- without a character it is nothing but the backslash, and what follows is read as it stands
abbrev pub Escape : Type 0
Escape = ℕ × Option ℕ

-- a character of this many bytes; no surrogate, and none above 10FFFF
abbrev pub character : ℕ → ℕ → Option Escape
character size n = if is_high n || is_low n || nat_lt 0x10_FFFF n then None else Some (size, Some n)

-- after x: two digits
abbrev pub byte_escape : Option ℕ → Option Escape
byte_escape None = None
byte_escape (Some n) = character 3 n

-- after the digits of a high surrogate: \u and the digits of a low one
abbrev pub low_escape : ℕ → Option ℕ → Option Escape
low_escape high None = None
low_escape high (Some low) = if is_low low then character 11 (paired high low) else None

abbrev pub second_half : ℕ → List ℕ → Option Escape
second_half high bs = if begins bs (backslash ∷ (small_u ∷ []))
    then low_escape high (four_digits (drop 2 bs)) else None

-- after u: four digits
abbrev pub unit_escape : List ℕ → Option ℕ → Option Escape
unit_escape bs None = None
unit_escape bs (Some n) = if is_high n then second_half n (drop 4 bs) else character 5 n

-- after u{ : at least one digit, and }
abbrev pub braced_escape : List ℕ → Option Escape
braced_escape bs =
    if nat_lt 0 (digits_size 16 bs) && begins (drop (digits_size 16 bs) bs) (close_brace ∷ [])
    then character (3 + digits_size 16 bs) (digits_value 16 0 bs)
    else None

-- after u
abbrev pub unicode_escape : List ℕ → Option Escape
unicode_escape bs = if begins bs (open_brace ∷ []) then braced_escape (drop 1 bs)
    else unit_escape bs (four_digits bs)

-- after 0: no digit
abbrev pub zero_escape : List ℕ → Option Escape
zero_escape [] = Some (1, Some 0)
zero_escape (b ∷ bs) = if is_digit b then None else Some (1, Some 0)

-- any other character stands for itself
abbrev pub plain_escape : ℕ → List ℕ → Option Escape
plain_escape b bs =
    if is_digit b || is_break b || begins_separator (b ∷ bs) then None else (
    if nat_lt b 128 then Some (1, Some b) else Some (0, None))

-- what a letter stands for
abbrev pub letter : ℕ → Option ℕ
letter b =
    if nat_eq b small_n then Some line_feed else (
    if nat_eq b small_t then Some tab else (
    if nat_eq b small_r then Some carriage_return else (
    if nat_eq b small_b then Some backspace else (
    if nat_eq b small_f then Some form_feed else (
    if nat_eq b small_v then Some vertical_tab else None)))))

abbrev pub letter_or : Option ℕ → Option Escape → Option Escape
letter_or None other = other
letter_or (Some c) other = Some (1, Some c)

-- after a backslash
abbrev pub escape : List ℕ → Option Escape
escape [] = None
escape (b ∷ bs) =
    letter_or (letter b) (
    if nat_eq b digit_0 then zero_escape bs else (
    if nat_eq b small_x then byte_escape (two_digits bs) else (
    if nat_eq b small_u then unicode_escape bs else plain_escape b bs)))

-- how many bytes that stand for themselves stand in front
abbrev pub plain_size : ℕ → List ℕ → ℕ
plain_size quote [] = 0
plain_size quote (b ∷ bs) = if nat_eq b quote then 0
    else (if is_break b then 0 else (if nat_eq b backslash then 0 else suc (plain_size quote bs)))

-- a literal from after its quote on: its content, and how many bytes it has with the other quote; without
-- that quote; or how many bytes
-- stand before the backslash of a wrong escape
pub data Literal : Type 0 where
  closed : List ℕ → ℕ → Literal
  unclosed : Literal
  wrong : ℕ → Literal

-- the literal after this many bytes that stand for this content
abbrev pub behind : List ℕ → ℕ → Literal → Literal
behind before size (closed content n) = closed (before ++ content) (size + n)
behind before size unclosed = unclosed
behind before size (wrong n) = wrong (size + n)

-- the bytes of the character
abbrev pub spelled : Option ℕ → List ℕ
spelled None = []
spelled (Some c) = encode_utf8 c

-- after a backslash: what follows decides
abbrev pub if_escape : List ℕ → Option Escape → (Escape → Literal) → Literal
if_escape [] e f = unclosed
if_escape (b ∷ bs) None f = wrong 0
if_escape (b ∷ bs) (Some e) f = f e

-- the literal with this quote, whose first bytes belong to an escape that was read, this many of them
abbrev pub literal : ℕ → ℕ → List ℕ → Literal
literal quote skip [] = unclosed
literal quote zero (b ∷ bs) =
    if nat_eq b quote then closed [] 1 else (
    if is_break b then unclosed else (
    if nat_eq b backslash then if_escape bs (escape bs)
    (λ e. behind (spelled e.1) 1 (literal quote e.0 bs))
    else behind (b ∷ []) 1 (literal quote 0 bs)))
literal quote (suc skip) (b ∷ bs) = behind [] 1 (literal quote skip bs)
