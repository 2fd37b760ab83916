-- Numbers of a word.
use Rattle.std.proofs.Common.{◌≡◌, ◌≢◌, ℕ, ◌<◌, ◌≤◌, ◌^◌, true, false, List, length, get_or, Some, None, Result, Ok, Err, refl, arith}
use Rattle.std.specs.Prelude.{◌&&◌, nat_lt, nat_le}
use Rattle.std.specs.Str.{all_ascii_digits}
use Rattle.std.specs.Str.Parse.{ParsesUnsigned}
use Rattle.std.proofs.lemmas.Bool.{and_parts, le-leb, leb-true, lt-ltb, ltb-true, false_from_ne_true}
use Rattle.bp_reading.specs.Words.{value_on}
use Rattle.bp_reader.proofs.Decimals.{parsed, parses}
use Rattle.bp_args.specs.declared.said.TheConstants.{MOST_DIGITS}
use Rattle.bp_args.specs.Said.{number_word}

word_none : (most : ℕ) (ds : List ℕ) → (all_ascii_digits ds ≡ true → 0 < length ds → value_on 0 ds ≤ most → length ds ≤ MOST_DIGITS → ⊥) → number_word most ds ≡ None
word_none most ds h =
    let no : (nat_lt 0 (length ds) && (nat_le (length ds) MOST_DIGITS && (all_ascii_digits ds && nat_le (value_on 0 ds) most))) ≡ false =
    false_from_ne_true _ (λ t.
    let a = and_parts _ _ t in
    let b = and_parts _ _ a.1 in
    let c = and_parts _ _ b.1 in
    h c.0 (ltb-true _ _ a.0) (leb-true _ _ c.1) (leb-true _ _ b.0)) in
    rw no refl

pub refused : {E : Type 0} (most : ℕ) (ds : List ℕ) (r : Result ℕ E) (e : E) → most < 2 ^ 64 → ParsesUnsigned 64 10 ds r → r ≡ Err e → get_or ds 0 0 ≢ 43 → number_word most ds ≡ None
refused most ds r e small h is p =
    let no = rw is at (parsed ds r h p) in
    word_none most ds (λ d s v _. no (d, s, omega (arith, v, small)))

pub too_great : {E : Type 0} (most n : ℕ) (ds : List ℕ) (r : Result ℕ E) → ParsesUnsigned 64 10 ds r → r ≡ Ok n → get_or ds 0 0 ≢ 43 → most < n → number_word most ds ≡ None
too_great most n ds r h is p big =
    let read = parses ds r n h is p in
    word_none most ds (λ _ _ v _. omega (arith, v, big, read.value))

pub read_word : {E : Type 0} (most n : ℕ) (ds : List ℕ) (r : Result ℕ E) → ParsesUnsigned 64 10 ds r → r ≡ Ok n → get_or ds 0 0 ≢ 43 → length ds ≤ MOST_DIGITS → n ≤ most → number_word most ds ≡ Some n
read_word most n ds r h is p short fits =
    let read = parses ds r n h is p in
    rw (lt-ltb _ _ read.some, le-leb _ _ short, read.digits, ← read.value, le-leb n most fits) refl
