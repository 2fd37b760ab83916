-- Behind an escape a character begins: its last byte is ASCII.
use Rattle.std.proofs.Common.{◌≡◌, ℕ, zero, suc, ◌+◌, ◌-◌, ◌*◌, ◌<◌, ◌≤◌, nat_eq, nat_lt, Bool, true, false, ◌&&◌, ◌||◌, List, [], ◌∷◌, Option, Some, None, if◌then◌else◌, length, get_or, take, drop, refl, arith}
use Rattle.std.specs.Str.{IsUtf8, IsCharBoundary}
use Rattle.std.proofs.lemmas.Str.{IsCharBoundary-after_ascii}
use Rattle.std.proofs.lemmas.Bool.Decides.{nat_tests}
use Rattle.std.proofs.Math.Seq.{take-length}
use Rattle.std.proofs.lemmas.Bool.{and_parts}
use Rattle.js_lexer.specs.Bytes.{begins}
use Rattle.js_lexer.specs.Numbers.{digit_value, is_digit_of, digits_size, digits_value}
use Rattle.js_lexer.specs.Literals.{Escape, two_digits, four_digits, joined, is_high, is_low, paired, character, byte_escape, low_escape, second_half, unit_escape, braced_escape, unicode_escape, zero_escape, plain_escape, letter, letter_or, escape}

-- this many bytes stand there, and the last of them is ASCII
pub record Ends (n : ℕ) (bs : List ℕ) : Type 0 where
  pub fits : n ≤ length bs
  pub ascii : 0 < n → get_or bs (n - 1) 0 < 128

-- and so for what was read
abbrev pub EscapeEnds : List ℕ → Option Escape → Type 0
EscapeEnds bs None = Unit {0}
EscapeEnds bs (Some e) = Ends e.0 bs

if-ends : (bs : List ℕ) (t : Bool) (x y : Option Escape) → (t ≡ true → EscapeEnds bs x) → (t ≡ false → EscapeEnds bs y) → EscapeEnds bs (if t then x else y)
if-ends bs true x y f g = f refl
if-ends bs false x y f g = g refl

character-ends : (bs : List ℕ) (size n : ℕ) → Ends size bs → EscapeEnds bs (character size n)
character-ends bs size n h = if-ends bs (is_high n || is_low n || nat_lt 0x10_FFFF n) None (Some (size, Some n)) (λ _. tt) (λ _. h)

-- a hexadecimal digit is ASCII
hex_small : (b : ℕ) → is_digit_of 16 b ≡ true → b < 128
hex_small b h = grind (arith, nat_tests)

-- two digits
pub record Two (bs : List ℕ) : Type 0 where
  pub room : 2 ≤ length bs
  pub first : get_or bs 0 0 < 128
  pub second : get_or bs 1 0 < 128

two-digits : (bs : List ℕ) (n : ℕ) → two_digits bs ≡ Some n → Two bs
two-digits [] n h = cc
two-digits (a ∷ []) n h = cc
two-digits (a ∷ (b ∷ bs)) n h = two_by (is_digit_of 16 a) refl (is_digit_of 16 b) refl h
  where
    two_by : (t : Bool) → is_digit_of 16 a ≡ t → (u : Bool) → is_digit_of 16 b ≡ u → (if t && u then Some (16 * digit_value a + digit_value b) else None) ≡ Some n → Two (a ∷ (b ∷ bs))
    two_by true p true q h = record { room = omega arith; first = hex_small a p; second = hex_small b q }
    two_by true p false q h = cc
    two_by false p u q h = cc

-- four digits
pub record Four (bs : List ℕ) : Type 0 where
  pub room : 4 ≤ length bs
  pub last : get_or bs 3 0 < 128

four_by : (bs : List ℕ) (o p : Option ℕ) (n : ℕ) → two_digits bs ≡ o → two_digits (drop 2 bs) ≡ p → joined o p ≡ Some n → Four bs
four_by bs None p n h k e = cc
four_by bs (Some a) None n h k e = cc
four_by [] (Some a) (Some b) n h k e = cc
four_by (x ∷ []) (Some a) (Some b) n h k e = cc
four_by (x ∷ (y ∷ [])) (Some a) (Some b) n h k e = cc
four_by (x ∷ (y ∷ (z ∷ []))) (Some a) (Some b) n h k e = cc
four_by (x ∷ (y ∷ (z ∷ (w ∷ bs)))) (Some a) (Some b) n h k e =
    let t = two-digits (z ∷ (w ∷ bs)) b k in record { room = omega arith; last = t.second }

four-digits : (bs : List ℕ) (n : ℕ) → four_digits bs ≡ Some n → Four bs
four-digits bs n h = four_by bs (two_digits bs) (two_digits (drop 2 bs)) n refl refl h

byte-ends : (x : ℕ) (bs : List ℕ) (o : Option ℕ) → two_digits bs ≡ o → EscapeEnds (x ∷ bs) (byte_escape o)
byte-ends x bs None h = tt
byte-ends x [] (Some n) h = cc
byte-ends x (a ∷ []) (Some n) h = cc
byte-ends x (a ∷ (b ∷ bs)) (Some n) h =
    let t = two-digits (a ∷ (b ∷ bs)) n h in
    character-ends (x ∷ (a ∷ (b ∷ bs))) 3 n (record { fits = omega arith; ascii = λ _. t.second })

-- after four bytes of five, a backslash and a letter
second_ends : (u a b c d : ℕ) (bs : List ℕ) (high : ℕ) → EscapeEnds (u ∷ (a ∷ (b ∷ (c ∷ (d ∷ bs))))) (second_half high bs)
second_ends u a b c d [] high = tt
second_ends u a b c d (x ∷ []) high = if-ends _ (begins (x ∷ []) (92 ∷ (117 ∷ []))) _ None (λ _. tt) (λ _. tt)
second_ends u a b c d (x ∷ (y ∷ bs)) high =
    if-ends _ (begins (x ∷ (y ∷ bs)) (92 ∷ (117 ∷ []))) (low_escape high (four_digits bs)) None (λ _. low_ends (four_digits bs) refl) (λ _. tt)
  where
    low_ends : (o : Option ℕ) → four_digits bs ≡ o → EscapeEnds (u ∷ (a ∷ (b ∷ (c ∷ (d ∷ (x ∷ (y ∷ bs))))))) (low_escape high o)
    low_ends None h = tt
    low_ends (Some low) h =
        let f = four-digits bs low h in
        if-ends _ (is_low low) (character 11 (paired high low)) None
        (λ _. character-ends _ 11 (paired high low) (record { fits = omega (arith, f.room); ascii = λ _. f.last })) (λ _. tt)

unit-ends : (u : ℕ) (bs : List ℕ) (o : Option ℕ) → four_digits bs ≡ o → EscapeEnds (u ∷ bs) (unit_escape bs o)
unit-ends u bs None h = tt
unit-ends u [] (Some n) h = cc
unit-ends u (a ∷ []) (Some n) h = absurd (omega (arith, (four-digits (a ∷ []) n h).room))
unit-ends u (a ∷ (b ∷ [])) (Some n) h = absurd (omega (arith, (four-digits (a ∷ (b ∷ [])) n h).room))
unit-ends u (a ∷ (b ∷ (c ∷ []))) (Some n) h = absurd (omega (arith, (four-digits (a ∷ (b ∷ (c ∷ []))) n h).room))
unit-ends u (a ∷ (b ∷ (c ∷ (d ∷ bs)))) (Some n) h =
    let f = four-digits (a ∷ (b ∷ (c ∷ (d ∷ bs)))) n h in
    if-ends _ (is_high n) (second_half n bs) (character 5 n) (λ _. second_ends u a b c d bs n)
    (λ _. character-ends _ 5 n (record { fits = omega (arith, f.room); ascii = λ _. f.last }))

-- a byte that stands after this many
begins_at : (b n : ℕ) (bs : List ℕ) → begins (drop n bs) (b ∷ []) ≡ true → (n < length bs) × (get_or bs n 0 ≡ b)
begins_at b zero [] h = cc
begins_at b zero (x ∷ bs) h = (omega arith, grind (arith, nat_tests))
begins_at b (suc n) [] h = cc
begins_at b (suc n) (x ∷ bs) h = let k = begins_at b n bs h in (omega (arith, k.0), k.1)

braced_end : (u v n : ℕ) (bs : List ℕ) → n < length bs → get_or bs n 0 ≡ 125 → Ends (3 + n) (u ∷ (v ∷ bs))
braced_end u v n bs h k = record {
  fits = omega arith;
  ascii = λ _. let e : 3 + n - 1 ≡ suc (suc n) = omega arith in rw (e, k) (omega arith);
}

braced-ends : (u v : ℕ) (bs : List ℕ) → EscapeEnds (u ∷ (v ∷ bs)) (braced_escape bs)
braced-ends u v bs =
    if-ends _ (nat_lt 0 (digits_size 16 bs) && begins (drop (digits_size 16 bs) bs) (125 ∷ [])) _ None
    (λ h. character-ends _ (3 + digits_size 16 bs) (digits_value 16 0 bs)
    (let k = begins_at 125 (digits_size 16 bs) bs (and_parts _ _ h).1 in braced_end u v (digits_size 16 bs) bs k.0 k.1)) (λ _. tt)

unicode-ends : (u : ℕ) (bs : List ℕ) → EscapeEnds (u ∷ bs) (unicode_escape bs)
unicode-ends u [] = tt
unicode-ends u (b ∷ bs) =
    if-ends _ (begins (b ∷ bs) (123 ∷ [])) (braced_escape bs) (unit_escape (b ∷ bs) (four_digits (b ∷ bs))) (λ _. braced-ends u b bs)
    (λ _. unit-ends u (b ∷ bs) (four_digits (b ∷ bs)) refl)

-- one ASCII byte
one_end : (b : ℕ) (bs : List ℕ) → b < 128 → Ends 1 (b ∷ bs)
one_end b bs h = record { fits = omega arith; ascii = λ _. h }

zero-ends : (b : ℕ) (bs : List ℕ) → b < 128 → EscapeEnds (b ∷ bs) (zero_escape bs)
zero-ends b [] h = one_end b [] h
zero-ends b (c ∷ bs) h = if-ends _ _ None (Some (1, Some 0)) (λ _. tt) (λ _. one_end b (c ∷ bs) h)

plain-ends : (b : ℕ) (bs : List ℕ) → EscapeEnds (b ∷ bs) (plain_escape b bs)
plain-ends b bs =
    if-ends _ _ None _ (λ _. tt) (λ _.
    if-ends _ (nat_lt b 128) (Some (1, Some b)) (Some (0, None)) (λ h. one_end b bs (grind (arith, nat_tests)))
    (λ _. record { fits = omega arith; ascii = λ h. absurd (omega arith) }))

letter_small : (b c : ℕ) → letter b ≡ Some c → b < 128
letter_small b c h = grind (arith, nat_tests)

pub escape-ends : (bs : List ℕ) (e : Escape) → escape bs ≡ Some e → Ends e.0 bs
escape-ends [] e h = cc
escape-ends (b ∷ bs) e h = let k = by_letter (letter b) refl in let t : EscapeEnds (b ∷ bs) (Some e) = rw h at k in t
  where
    rest : Option Escape
    rest =
        if nat_eq b 48 then zero_escape bs else (
        if nat_eq b 120 then byte_escape (two_digits bs) else (
        if nat_eq b 117 then unicode_escape bs else plain_escape b bs))

    by_letter : (o : Option ℕ) → letter b ≡ o → EscapeEnds (b ∷ bs) (letter_or o rest)
    by_letter (Some c) l = one_end b bs (letter_small b c l)
    by_letter None l =
        if-ends _ (nat_eq b 48) (zero_escape bs) _ (λ k. zero-ends b bs (grind (arith, nat_tests))) (λ _.
        if-ends _ (nat_eq b 120) (byte_escape (two_digits bs)) _ (λ _. byte-ends b bs (two_digits bs) refl) (λ _.
        if-ends _ (nat_eq b 117) (unicode_escape bs) _ (λ _. unicode-ends b bs) (λ _. plain-ends b bs)))

last_small : (n : ℕ) (bs : List ℕ) → Ends n bs → get_or (92 ∷ bs) n 0 < 128
last_small zero bs h = omega arith
last_small (suc n) bs h = let e : suc n - 1 ≡ n = omega arith in rw e at (h.ascii (omega arith))

-- where a character begins after a backslash and an escape
pub escape_boundary : (rest bs : List ℕ) (e : Escape) → IsUtf8 rest → rest ≡ 92 ∷ bs → escape bs ≡ Some e → IsCharBoundary rest (1 + e.0)
escape_boundary rest bs e u r h =
    let ends = escape-ends bs e h in
    let c : 1 + e.0 ≡ e.0 + 1 = omega arith in
    let fits : e.0 < length rest = rw r (omega (arith, ends.fits)) in
    rw c (IsCharBoundary-after_ascii rest e.0 u fits (rw r (last_small e.0 bs ends)))

pub escape_fits : (bs : List ℕ) (e : Escape) → escape bs ≡ Some e → e.0 ≤ length bs
escape_fits bs e h = (escape-ends bs e h).fits

-- all but the first byte
pub behind_one : (bs rest : List ℕ) → bs ≡ rest → take (length bs - 1) (drop 1 bs) ≡ drop 1 rest
behind_one bs rest h = rw (← h) (all_behind bs)
  where
    all_behind : (xs : List ℕ) → take (length xs - 1) (drop 1 xs) ≡ drop 1 xs
    all_behind [] = refl
    all_behind (x ∷ xs) = let e : suc (length xs) - 1 ≡ length xs = omega arith in rw e (take-length xs)
