-- Numbers that are parsed.
use Rattle.std.proofs.Common.{◌≡◌, ◌≢◌, ℕ, ◌<◌, ◌≤◌, ◌^◌, true, false, List, length, get_or, Some, None, Result, Ok, Err, refl, arith}
use Rattle.std.specs.Prelude.{◌&&◌, nat_le}
use Rattle.std.specs.Result.{OkIff}
use Rattle.std.specs.Str.{all_ascii_digits, IsUtf8}
use Rattle.std.specs.Str.Parse.{ParsesUnsigned}
use Rattle.std.proofs.lemmas.Bool.{and_parts, le-leb, leb-true, false_from_ne_true}
use Rattle.std.proofs.lemmas.Str.Parse.{parse_plain}
use Rattle.std.proofs.lemmas.Str.{IsUtf8-from_ascii}
use Rattle.std.proofs.lemmas.Fmt.{IsAscii-from_digits}
use Rattle.bp_reading.specs.Words.{number_at, is_numeral, value_on, is_front_zero}
use Rattle.bp_reading.proofs.Numbers.{own, numeral_parts, Numeral, numeral_of}

pub number_none : (most : ℕ) (ds : List ℕ) → (Numeral ds → value_on 0 ds ≤ most → ⊥) → number_at most ds ≡ None
number_none most ds h =
    let no : (is_numeral ds && nat_le (value_on 0 ds) most) ≡ false =
    false_from_ne_true _ (λ t. let p = and_parts _ _ t in h (numeral_parts ds p.0) (leb-true _ _ p.1)) in
    rw no refl

pub number_some : (most n : ℕ) (ds : List ℕ) → 0 < length ds → all_ascii_digits ds ≡ true → is_front_zero ds ≡ false → n ≡ value_on 0 ds → n ≤ most → number_at most ds ≡ Some n
number_some most n ds a b c e h = rw (numeral_of ds a b c, ← e, le-leb n most h) refl

-- what parsing says, of bytes without a plus before them
pub parsed : {E : Type 0} (ds : List ℕ) (r : Result ℕ E) → ParsesUnsigned 64 10 ds r → get_or ds 0 0 ≢ 43 → OkIff r ((all_ascii_digits ds ≡ true) × (0 < length ds) × (value_on 0 ds < 2 ^ 64)) (value_on 0 ds)
parsed ds r h p = parse_plain own 64 ds r h p

pub utf8_digits : (ds : List ℕ) → all_ascii_digits ds ≡ true → IsUtf8 ds
utf8_digits ds h = IsUtf8-from_ascii ds (IsAscii-from_digits ds (own.to ds h))

pub record Read (n : ℕ) (ds : List ℕ) : Type 0 where
  pub some : 0 < length ds
  pub digits : all_ascii_digits ds ≡ true
  pub value : n ≡ value_on 0 ds

-- what was parsed
pub parses : {E : Type 0} (ds : List ℕ) (r : Result ℕ E) (n : ℕ) → ParsesUnsigned 64 10 ds r → r ≡ Ok n → get_or ds 0 0 ≢ 43 → Read n ds
parses {E} ds r n h e p =
    let q = rw e at (parsed ds r h p) in
    record { some = q.0.1; digits = q.0.0; value = q.1 }

pub refused : {E : Type 0} (most : ℕ) (ds : List ℕ) (r : Result ℕ E) (e : E) → most < 2 ^ 64 → ParsesUnsigned 64 10 ds r → r ≡ Err e → get_or ds 0 0 ≢ 43 → number_at most ds ≡ None
refused most ds r e small h is p =
    let no = rw is at (parsed ds r h p) in
    number_none most ds (λ d fits. no (d.digits, d.some, omega (arith, fits, small)))

pub too_great : (most n : ℕ) (ds : List ℕ) → Read n ds → most < n → number_at most ds ≡ None
too_great most n ds r big = number_none most ds (λ d fits. omega (arith, fits, big, r.value))

pub read_number : (most n : ℕ) (ds : List ℕ) → Read n ds → is_front_zero ds ≡ false → n ≤ most → number_at most ds ≡ Some n
read_number most n ds r z fits = number_some most n ds r.some r.digits z r.value fits
