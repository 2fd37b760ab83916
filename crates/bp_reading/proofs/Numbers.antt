-- Numbers in decimal.
use Rattle.std.proofs.Common.{◌≡◌, ℕ, ◌+◌, ◌%◌, ◌^◌, ◌<◌, ◌≤◌, true, false, List, [], ◌∷◌, length, get_or, Some, refl, sym, ap, ◌∙◌, inl, inr, arith, rules}
use Rattle.std.specs.Prelude.{not, decimal}
use Rattle.std.specs.Str.{all_ascii_digits}
use Rattle.std.proofs.lemmas.Bool.Decides.{eqb_tells}
use Rattle.std.proofs.lemmas.Bool.{false≢true, and_parts, le-leb, leb-true, cases_eq, false_from_ne_true, not-true}
use Rattle.std.proofs.lemmas.Fmt.{decimal_by_steps, decimal_nonempty, first_decimal, decimal_digit, digits_decimal, digits_value-decimal, decimal-digits_value}
use Rattle.std.proofs.lemmas.Str.Parse.{IsNumeralModel, numerals_by_fold}
use Rattle.std.proofs.lemmas.Option.{cond_some}
use Rattle.bp_reading.specs.Words.{value_on, is_front_zero, is_numeral, number_at}
use Rattle.bp_reading.proofs.Lines.{lacks, lacks-append}

pub own : IsNumeralModel (λ ds. all_ascii_digits ds ≡ true) (value_on 0)
own = numerals_by_fold _ (search rules) value_on (search rules)

below_digits : (c n : ℕ) → c < 48 → lacks c ((48 + n) ∷ []) ≡ true
below_digits c n h = elim (eqb_tells (48 + n) c) [ inl same ↦ absurd (omega (arith, same.1)) | inr other ↦ rw other.0 refl ]

-- no such byte is a digit
pub lacks-decimal : (c : ℕ) → c < 48 → (n : ℕ) → n < 2 ^ 64 → lacks c (decimal n) ≡ true
lacks-decimal c h n small = decimal_by_steps (λ m ds. lacks c ds ≡ true) (λ m _. below_digits c m h) (λ m ds _ k. lacks-append c ds _ k (below_digits c (m % 10) h)) n small

pub front_zero_is : (ds : List ℕ) → is_front_zero ds ≡ true → (get_or ds 0 0 ≡ 48) × (1 < length ds)
front_zero_is [] h = absurd (false≢true h)
front_zero_is (c ∷ []) h = absurd (false≢true h)
front_zero_is (c ∷ d ∷ ds) h = elim (eqb_tells c 48) [ inl same ↦ (same.1, omega arith) | inr other ↦ absurd (false≢true (sym other.0 ∙ h)) ]

pub front_zero_not : (ds : List ℕ) → is_front_zero ds ≡ false → get_or ds 0 0 ≡ 48 → length ds ≡ 1
front_zero_not [] h e = absurd (omega (arith, e))
front_zero_not (c ∷ []) h e = refl
front_zero_not (c ∷ d ∷ ds) h e = elim (eqb_tells c 48) [ inl same ↦ absurd (false≢true (sym h ∙ same.0)) | inr other ↦ absurd (other.1 e) ]

no_front_zero : (n : ℕ) → n < 2 ^ 64 → is_front_zero (decimal n) ≡ false
no_front_zero n small = elim (cases_eq n 0) [
  | inl none ↦ rw (none, decimal_digit 0 (omega arith)) refl
  | inr some ↦ false_from_ne_true _ (λ z. let p = front_zero_is (decimal n) z in omega (arith, p.0, first_decimal n (omega (arith, some)) small))
]

pub numeral_of : (ds : List ℕ) → 0 < length ds → all_ascii_digits ds ≡ true → is_front_zero ds ≡ false → is_numeral ds ≡ true
numeral_of [] n h z = absurd (omega (arith, n))
numeral_of (c ∷ cs) n h z = rw (h, z) refl

-- a number is read from its text
pub number_back : (most n : ℕ) → most < 2 ^ 64 → n ≤ most → number_at most (decimal n) ≡ Some n
number_back most n small h =
    let fits : n < 2 ^ 64 = omega (arith, small, h) in
    rw (numeral_of (decimal n) (decimal_nonempty n fits) (digits_decimal own n fits) (no_front_zero n fits), digits_value-decimal own n fits, le-leb n most h) refl

pub record Numeral (ds : List ℕ) : Type 0 where
  pub some : 0 < length ds
  pub digits : all_ascii_digits ds ≡ true
  pub front : is_front_zero ds ≡ false

pub numeral_parts : (ds : List ℕ) → is_numeral ds ≡ true → Numeral ds
numeral_parts [] h = absurd (false≢true h)
numeral_parts (c ∷ cs) h =
    let p = and_parts (all_ascii_digits (c ∷ cs)) (not (is_front_zero (c ∷ cs))) h in
    record { some = omega arith; digits = p.0; front = not-true _ p.1 }

-- what is read as a number is its text
pub number_text : (most n : ℕ) (ds : List ℕ) → most < 2 ^ 64 → number_at most ds ≡ Some n → (ds ≡ decimal n) × (n ≤ most)
number_text most n ds small h =
    let p = cond_some _ (value_on 0 ds) n h in
    let q = and_parts _ _ p.0 in
    let d = numeral_parts ds q.0 in
    let fits : value_on 0 ds ≤ most = leb-true _ _ q.1 in
    (sym (decimal-digits_value own ds d.digits d.some (front_zero_not ds d.front) (omega (arith, fits, small))) ∙ ap decimal p.1, rw (← p.1) fits)
