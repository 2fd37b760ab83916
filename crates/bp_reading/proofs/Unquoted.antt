-- A text is UTF-8 where it is so in quotation marks.
use Rattle.std.proofs.Common.{◌≡◌, ◌∙◌, ℕ, zero, suc, ◌<◌, ◌≤◌, Bool, true, false, List, [], ◌∷◌, ◌++◌, length, get_or, IsUtf8, refl, sym, ap, subst, inl, inr, arith, append_assoc, append-nil, length-append}
use Rattle.std.specs.Prelude.{◌&&◌, nat_lt, flat_map}
use Rattle.std.proofs.Math.Utf8.{scalars, encode, encodes}
use Rattle.std.proofs.lemmas.Bool.{and_parts, cases_lt, lt-ltb, ltb-true, false≢true, agree_below, agree_below_at}
use Rattle.std.proofs.lemmas.Str.{IsUtf8-append, IsUtf8-nil, IsUtf8-encode, IsUtf8-past_char, encode_ascii, length-encode, len_utf8_bounds, inside_one, byte_from_char}
use Rattle.json.proofs.Printed.Utf8.{are_ascii, IsUtf8-are_ascii}
use Rattle.json.proofs.Printed.Strings.{escape_byte_plain}
use Rattle.js_data.specs.JsonText.{quoted_text, escaped_byte}
use Rattle.js_json.proofs.Escapes.{escape_byte_is}

pub past_ascii : (a bs : List ℕ) → are_ascii a ≡ true → IsUtf8 (a ++ bs) → IsUtf8 bs
past_ascii [] bs h u = u
past_ascii (x ∷ a) bs h u =
    let p = and_parts (nat_lt x 128) (are_ascii a) h in
    let small : x < 128 = ltb-true x 128 p.0 in
    past_ascii a bs p.1 (IsUtf8-past_char (x ∷ (a ++ bs)) (a ++ bs) x u (ap (λ (l : List ℕ). l ++ (a ++ bs)) (sym (encode_ascii x small))))

-- ---- the escape of a byte below 128 is ASCII, and that of another is itself

abbrev starts_low : List ℕ → Bool
starts_low [] = false
starts_low (x ∷ xs) = nat_lt x 128

all_low : agree_below (λ x. starts_low (escaped_byte x) && are_ascii (escaped_byte x)) (λ x. true) 128 ≡ true
all_low = refl

low_escape : (x : ℕ) → x < 128 → (starts_low (escaped_byte x) ≡ true) × (are_ascii (escaped_byte x) ≡ true)
low_escape x h = and_parts _ _ (agree_below_at (λ x. starts_low (escaped_byte x) && are_ascii (escaped_byte x)) (λ x. true) 128 x all_low h)

high_escape : (x : ℕ) → 128 ≤ x → escaped_byte x ≡ x ∷ []
high_escape x h = sym (escape_byte_is x) ∙ escape_byte_plain x (λ e. omega arith) (λ e. omega arith) (omega arith)

first_low : (a bs : List ℕ) → starts_low a ≡ true → get_or (a ++ bs) 0 0 < 128
first_low [] bs h = absurd (false≢true h)
first_low (x ∷ a) bs h = ltb-true x 128 h

-- ---- characters

abbrev escaped : List ℕ → List ℕ → List ℕ
escaped s rest = flat_map escaped_byte s ++ (34 ∷ rest)

escaped_next : (x : ℕ) (s rest : List ℕ) → escaped (x ∷ s) rest ≡ escaped_byte x ++ escaped s rest
escaped_next x s rest = append_assoc (escaped_byte x) (flat_map escaped_byte s) (34 ∷ rest)

high_next : (x : ℕ) (s rest : List ℕ) → 128 ≤ x → escaped (x ∷ s) rest ≡ x ∷ escaped s rest
high_next x s rest h = escaped_next x s rest ∙ ap (λ (l : List ℕ). l ++ escaped s rest) (high_escape x h)

AreHigh : List ℕ → Type 0
AreHigh p = (k : ℕ) → k < length p → 128 ≤ get_or p k 0

record Cut (p s t rest : List ℕ) : Type 0 where
  more : List ℕ
  text : s ≡ p ++ more
  later : escaped more rest ≡ t

-- bytes that no escape has stand in the text
cut_high : (p s t rest : List ℕ) → AreHigh p → escaped s rest ≡ p ++ t → Cut p s t rest
unfolding AreHigh
cut_high [] s t rest h e = record { more = s; text = refl; later = e }
cut_high (y ∷ p) [] t rest h e = let big = h 0 (omega arith) in absurd (omega (arith, big, ap (λ (l : List ℕ). get_or l 0 0) e))
cut_high (y ∷ p) (x ∷ s) t rest h e =
    let big : 128 ≤ y = h 0 (omega arith) in
    elim (cases_lt x 128) [
      | inl small ↦
          let low = first_low (escaped_byte x) (escaped s rest) (low_escape x small).0 in
          absurd (omega (arith, big, low, ap (λ (l : List ℕ). get_or l 0 0) (sym (escaped_next x s rest) ∙ e)))
      | inr high ↦
          let same = sym (high_next x s rest high) ∙ e in
          let c = cut_high p s t rest (λ k b. h (suc k) (omega (arith, b))) (ap (λ (l : List ℕ). elim l [ [] ↦ [] | a ∷ l2 ↦ l2 ]) same) in
          record { more = c.more; text = ap (λ (l : List ℕ). x ∷ l) c.text ∙ ap (λ (n : ℕ). n ∷ (p ++ c.more)) (ap (λ (l : List ℕ). get_or l 0 0) same); later = c.later }
    ]

record Front (bs : List ℕ) : Type 0 where
  char : ℕ
  rest : List ℕ
  is_char : IsUtf8 (encode char)
  some : 0 < length (encode char)
  high : AreHigh (encode char)
  utf8 : IsUtf8 rest
  all : bs ≡ encode char ++ rest

front_char : (cs : List ℕ) (x : ℕ) (bs : List ℕ) → 128 ≤ x → scalars cs ≡ true → encodes cs ≡ x ∷ bs → Front (x ∷ bs)
unfolding AreHigh
front_char [] x bs big ok e = absurd (omega (arith, ap (λ (l : List ℕ). length l) e))
front_char (c ∷ cs) x bs big ok e =
    let p = and_parts _ _ ok in
    record {
      char = c;
      rest = encodes cs;
      is_char = IsUtf8-encode c p.0;
      some = omega (arith, length-encode c, (len_utf8_bounds c).0);
      high = λ k b. elim (cases_lt (get_or (encode c) k 0) 128) [
        | inl low ↦
            let small : c < 128 = omega (arith, inside_one c [] (encode c) k (sym (append-nil _)) b low, low) in
            absurd (omega (arith, big, small, byte_from_char (x ∷ bs) (encodes cs) c (sym e) small))
        | inr high ↦ high
      ];
      utf8 = (cs, (p.1, refl));
      all = sym e;
    }

unquoted : (n : ℕ) (s rest : List ℕ) → length s ≤ n → IsUtf8 (escaped s rest) → IsUtf8 s × IsUtf8 rest
unquoted n [] rest h u = (IsUtf8-nil, past_ascii (34 ∷ []) rest refl u)
unquoted zero (x ∷ s) rest h u = absurd (omega (arith, h))
unquoted (suc n) (x ∷ s) rest h u = elim (cases_lt x 128) [
  | inl small ↦
      let tail = unquoted n s rest (omega (arith, h)) (past_ascii (escaped_byte x) (escaped s rest) (low_escape x small).1 (subst IsUtf8 (escaped_next x s rest) u)) in
      (IsUtf8-append (x ∷ []) s (IsUtf8-are_ascii (x ∷ []) (rw (lt-ltb x 128 small) refl)) tail.0, tail.1)
  | inr big ↦
      let f = front_char u.0 x (escaped s rest) big u.1.0 (u.1.1 ∙ high_next x s rest big) in
      let c = cut_high (encode f.char) (x ∷ s) f.rest rest f.high (high_next x s rest big ∙ f.all) in
      let less : length c.more ≤ n = omega (arith, h, f.some, ap (λ (l : List ℕ). length l) c.text, length-append (encode f.char) c.more) in
      let tail = unquoted n c.more rest less (subst IsUtf8 (sym c.later) f.utf8) in
      (subst IsUtf8 (sym c.text) (IsUtf8-append (encode f.char) c.more f.is_char tail.0), tail.1)
]

-- a text and what stands after it
pub utf8_unquoted : (s rest : List ℕ) → IsUtf8 (quoted_text s ++ rest) → IsUtf8 s × IsUtf8 rest
utf8_unquoted s rest u =
    let body = past_ascii (34 ∷ []) ((flat_map escaped_byte s ++ (34 ∷ [])) ++ rest) refl u in
    unquoted (length s) s rest (omega arith) (subst IsUtf8 (append_assoc (flat_map escaped_byte s) (34 ∷ []) rest) body)
