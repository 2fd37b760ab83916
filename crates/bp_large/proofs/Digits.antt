-- The digits of a number before a semicolon are one token, on one line.
use Rattle.std.proofs.Common.{◌≡◌, ℕ, zero, suc, ◌+◌, ◌-◌, ◌*◌, ◌<◌, ◌≤◌, nat_eq, nat_lt, Bool, true, false, ◌&&◌, ◌||◌, not, List, [], ◌∷◌, ◌++◌, length, get_or, take, drop, pos, refl, sym, ap, ◌∙◌, arith}
use Rattle.std.proofs.Math.Seq.{drop-append_seam}
use Rattle.std.specs.Int.{IsInRange}
use lib.Pointwise.{pointwise}
use Rattle.std.specs.Prelude.{decimal}
use Rattle.std.specs.Fmt.{digits}
use Rattle.std.proofs.lemmas.Bool.Decides.{nat_tests}
use Rattle.std.proofs.lemmas.Fmt.{digits_decimal, digits_value-decimal, first_decimal, decimal_nonempty}
use Rattle.std.proofs.lemmas.Str.Parse.{IsDigitsTest, IsNumeralModel, numerals_by_fold}
use Rattle.js_lexer.specs.declared.token.Kind.TheVariants.{Number}
use Rattle.js_lexer.specs.Bytes.{begins, is_digit, is_name_start}
use Rattle.js_lexer.specs.Gaps.{ends_line, line_ends}
use Rattle.js_lexer.specs.Numbers.{digit_value, is_digit_of, digits_size, digits_value, has_base, base_of, number_size, number_value}
use Rattle.js_lexer.specs.Front.{token, front, number_before}
use Rattle.js_data.proofs.Shared.{if_true, if_false}

abbrev pub AreDigits : List ℕ → Type 0
AreDigits [] = Unit {0}
AreDigits (d ∷ ds) = IsInRange 48 57 d × AreDigits ds

digits_test : IsDigitsTest AreDigits
digits_test = record { empty = tt; parts = λ c cs p. p; more = λ c cs r p. (r, p) }

digit : (d : ℕ) → IsInRange 48 57 d → is_digit d ≡ true
digit d h = grind (arith, nat_tests)

no_start : (d : ℕ) → IsInRange 48 57 d → is_name_start d ≡ false
no_start d h = grind (arith, nat_tests)

value : (d : ℕ) → IsInRange 48 57 d → digit_value d ≡ d - 48
value d h = if_true _ _ _ (digit d h)

tenth : (d : ℕ) → IsInRange 48 57 d → is_digit_of 10 d ≡ true
tenth d h = let e = value d h in grind (arith, nat_tests)

no_letter : (d c : ℕ) → IsInRange 48 57 d → 58 ≤ c → nat_eq d c ≡ false
no_letter d c h k = grind (arith, nat_tests)

none_of_these : (p q r s t : Bool) → p ≡ false → q ≡ false → s ≡ false → t ≡ false → (p || (q && r) || (s || t)) ≡ false
none_of_these p q r s t h k l m = rw (h, k, l, m) refl

no_line : (d : ℕ) (bs : List ℕ) → IsInRange 48 57 d → ends_line (d ∷ bs) ≡ false
no_line d bs h =
    let a : nat_eq 10 d ≡ false = grind (arith, nat_tests) in
    let b : nat_eq 13 d ≡ false = grind (arith, nat_tests) in
    let c : nat_eq 226 d ≡ false = grind (arith, nat_tests) in
    none_of_these (begins (d ∷ bs) (10 ∷ [])) (begins (d ∷ bs) (13 ∷ [])) (not (begins (d ∷ bs) (13 ∷ (10 ∷ [])))) (begins (d ∷ bs) (226 ∷ (128 ∷ (168 ∷ [])))) (begins (d ∷ bs) (226 ∷ (128 ∷ (169 ∷ []))))
    (ap (λ (t : Bool). t && true) a) (ap (λ (t : Bool). t && true) b)
    (ap (λ (t : Bool). t && pointwise nat_eq (128 ∷ (168 ∷ [])) (take 2 bs)) c) (ap (λ (t : Bool). t && pointwise nat_eq (128 ∷ (169 ∷ [])) (take 2 bs)) c)

module _ (r : List ℕ) where
  pub one_line : (ds : List ℕ) → AreDigits ds → line_ends (length ds) (ds ++ 59 ∷ r) ≡ 0
  one_line [] h = refl
  one_line (d ∷ ds) h = rw (no_line d (ds ++ 59 ∷ r) h.0, one_line ds h.1) refl

  size : (ds : List ℕ) → AreDigits ds → digits_size 10 (ds ++ 59 ∷ r) ≡ length ds
  size [] h = refl
  size (d ∷ ds) h = if_true _ _ _ (tenth d h.0) ∙ ap suc (size ds h.1)

  value_of : (ds : List ℕ) (n : ℕ) → AreDigits ds → digits_value 10 n (ds ++ 59 ∷ r) ≡ digits_value 10 n ds
  value_of [] n h = refl
  value_of (d ∷ ds) n h = if_true _ _ _ (tenth d h.0) ∙ value_of ds (10 * n + digit_value d) h.1 ∙ sym (if_true _ _ _ (tenth d h.0))

folded : (n c : ℕ) (cs : List ℕ) → IsInRange 48 57 c → digits_value 10 n (c ∷ cs) ≡ digits_value 10 (n * 10 + (c - 48)) cs
folded n c cs h =
    let e : 10 * n + digit_value c ≡ n * 10 + (c - 48) = omega (arith, value c h) in
    if_true _ _ _ (tenth c h) ∙ ap (λ m. digits_value 10 m cs) e

model : IsNumeralModel AreDigits (digits_value 10 0)
model = numerals_by_fold AreDigits digits_test (digits_value 10) (record { empty = λ n. refl; more = folded })

pub are_digits : (n : ℕ) → n < 4294967296 → AreDigits (decimal n)
are_digits n h = digits_decimal model n (omega arith)

-- the second byte is not a letter, so no base is said
middle : (a c : Bool) → (a && false && c) ≡ false
middle true c = refl
middle false c = refl

second : (b s c z l : ℕ) (xs : List ℕ) → nat_eq l s ≡ false → nat_eq l c ≡ false → has_base b s c (z ∷ (l ∷ xs)) ≡ false
second b s c z l [] h k = refl
second b s c z l (x ∷ xs) h k = rw (h, k) (middle (nat_eq z 48) (is_digit_of b x))

ten_mark : (z : ℕ) (xs : List ℕ) → base_of (z ∷ (59 ∷ xs)) ≡ 10
ten_mark z xs = if_false _ _ _ (second 16 120 88 z 59 xs refl refl) ∙ if_false _ _ _ (second 8 111 79 z 59 xs refl refl) ∙ if_false _ _ _ (second 2 98 66 z 59 xs refl refl)

ten_digit : (z l : ℕ) (xs : List ℕ) → IsInRange 48 57 l → base_of (z ∷ (l ∷ xs)) ≡ 10
ten_digit z l xs h =
    let a = second 16 120 88 z l xs (no_letter l 120 h (omega arith)) (no_letter l 88 h (omega arith)) in
    let b = second 8 111 79 z l xs (no_letter l 111 h (omega arith)) (no_letter l 79 h (omega arith)) in
    let c = second 2 98 66 z l xs (no_letter l 98 h (omega arith)) (no_letter l 66 h (omega arith)) in
    rw (a, b, c) refl

ten : (r : List ℕ) (d : ℕ) (ds : List ℕ) → AreDigits ds → base_of (d ∷ (ds ++ 59 ∷ r)) ≡ 10
ten r d [] h = ten_mark d r
ten r d (e ∷ es) h = ten_digit d e (es ++ 59 ∷ r) h.0

before_mark : (base v size w k : ℕ) (bs r : List ℕ) → base ≡ 10 → v ≡ w → size ≡ k → drop k bs ≡ 59 ∷ r → number_before base v size (drop size bs) ≡ token (Number (pos w)) k
before_mark base v size w k bs r h i j l = rw (h, i, j, l) refl

-- digits of this size and value are this token
of_value : (r : List ℕ) (d : ℕ) (ds : List ℕ) (w : ℕ) → AreDigits (d ∷ ds) → number_size (d ∷ (ds ++ 59 ∷ r)) ≡ length (d ∷ ds) → number_value (d ∷ (ds ++ 59 ∷ r)) ≡ w → w < 4294967296 →
    front (d ∷ (ds ++ 59 ∷ r)) ≡ token (Number (pos w)) (length (d ∷ ds))
of_value r d ds w h long is small =
    let bs : List ℕ = d ∷ (ds ++ 59 ∷ r) in
    let fits : nat_lt 9007199254740991 (number_value bs) ≡ false = rw is (grind (arith, nat_tests)) in
    if_false _ _ _ (no_start d h.0) ∙ if_true _ _ _ (digit d h.0) ∙ if_false _ _ _ fits ∙
    before_mark (base_of bs) (number_value bs) (number_size bs) w (length (d ∷ ds)) bs r (ten r d ds h.1) is long (drop-append_seam (d ∷ ds) (59 ∷ r))

-- the first of them is not 0
numbered : (r : List ℕ) (d : ℕ) (ds : List ℕ) → AreDigits (d ∷ ds) → 48 < d → digits_value 10 0 (d ∷ ds) < 4294967296 →
    front (d ∷ (ds ++ 59 ∷ r)) ≡ token (Number (pos (digits_value 10 0 (d ∷ ds)))) (length (d ∷ ds))
numbered r d ds h some small =
    let zero_no : nat_eq d 48 ≡ false = grind (arith, nat_tests) in
    of_value r d ds (digits_value 10 0 (d ∷ ds)) h (rw (ten r d ds h.1) (if_false _ _ _ zero_no ∙ size r (d ∷ ds) h)) (rw (ten r d ds h.1) (if_false _ _ _ zero_no ∙ value_of r (d ∷ ds) 0 h)) small

-- 0 alone
zero_alone : (r : List ℕ) → front (48 ∷ 59 ∷ r) ≡ token (Number (pos 0)) 1
zero_alone r = of_value r 48 [] 0 (omega arith, tt) (rw (ten r 48 [] tt) refl) (rw (ten r 48 [] tt) refl) (omega arith)

zero_digits : decimal 0 ≡ 48 ∷ []
unfolding digits
zero_digits = refl

-- what stands in front where the number of b-threads stands
pub record IsNumbered (r : List ℕ) (n : ℕ) : Type 0 where
  pub first : ℕ
  pub more : List ℕ
  pub is : decimal n ≡ first ∷ more
  pub amount : ℕ
  pub number : front (first ∷ (more ++ 59 ∷ r)) ≡ token (Number (pos amount)) (length (first ∷ more))
  pub line : line_ends (length (first ∷ more)) (first ∷ (more ++ 59 ∷ r)) ≡ 0

of_digits : (r : List ℕ) (n : ℕ) (ds : List ℕ) → decimal n ≡ ds → 0 < length ds → AreDigits ds → (0 < n → 48 < get_or ds 0 0) → digits_value 10 0 ds ≡ n → n < 4294967296 → (0 < n) → IsNumbered r n
of_digits r n [] e l h f v s some = absurd (omega (arith, l))
of_digits r n (d ∷ ds) e l h f v s some = record {
  first = d;
  more = ds;
  is = e;
  amount = digits_value 10 0 (d ∷ ds);
  number = numbered r d ds h (f some) (omega (arith, v, s));
  line = one_line r (d ∷ ds) h;
}

pub is_numbered : (r : List ℕ) (n : ℕ) → n < 4294967296 → IsNumbered r n
is_numbered r zero h = record { first = 48; more = []; is = zero_digits; amount = 0; number = zero_alone r; line = refl }
is_numbered r (suc n) h =
    of_digits r (suc n) (decimal (suc n)) refl (decimal_nonempty (suc n) (omega arith)) (are_digits (suc n) h) (λ some. first_decimal (suc n) some (omega arith))
    (digits_value-decimal model (suc n) (omega arith)) h (omega arith)
