-- What stands in front has at least one byte, and no more than there are.
use Rattle.std.proofs.Common.{◌≡◌, ℕ, zero, suc, ◌+◌, ◌<◌, ◌≤◌, nat_eq, nat_lt, Bool, true, false, ◌&&◌, ◌||◌, List, [], ◌∷◌, codes, pos, Option, Some, None, option_map, if◌then◌else◌, length, take, drop, refl, ap, arith, length-drop}
use Rattle.std.proofs.lemmas.List.{length-take}
use Rattle.std.proofs.lemmas.Bool.{eqb-true, and_parts}
use Rattle.std.proofs.lemmas.Bool.Decides.{nat_tests}
use Rattle.std.proofs.lemmas.Slice.Eq.{bytes_eq-Decides}
use Rattle.bp_tables.specs.Found.{front_in}
use Rattle.js_lexer.specs.declared.sort.Sort.{Sort}
use Rattle.js_lexer.specs.declared.numbers.TheConstants.{GREATEST}
use Rattle.js_lexer.specs.declared.token.Kind.TheVariants.{Number}
use Rattle.js_lexer.specs.declared.token.Flaw.TheVariants.{Character, NumberRange, Unsupported}
use Rattle.js_lexer.specs.Bytes.{begins, is_digit, is_name_start, is_name_byte, is_quote}
use Rattle.js_lexer.specs.Gaps.{blank_size, line_end_size, size_of_line, size_to_close}
use Rattle.js_lexer.specs.Spellings.{all_marks}
use Rattle.js_lexer.specs.Numbers.{is_digit_of, digits_size, has_base, base_of, decimal_size, number_size, number_value, is_unsupported_end}
use Rattle.js_lexer.specs.Literals.{Escape, is_break, escape, spelled, Literal, closed, unclosed, wrong, behind, if_escape, literal}
use Rattle.js_lexer.specs.Front.{Piece, nothing, gap, token, refused, name_size, number_before, number, quoted, block, mark, is_dot_digit, gap_or, comment_or_mark, gap_or_mark, front}

pub record Sized (n : ℕ) (bs : List ℕ) : Type 0 where
  pub some : 0 < n
  pub within : n ≤ length bs

abbrev pub PieceFits : List ℕ → Piece → Type 0
PieceFits bs nothing = Unit {0}
PieceFits bs (gap n) = Sized n bs
PieceFits bs (token kind n) = Sized n bs
PieceFits bs (refused flaw n) = n ≤ length bs

if-fits : (bs : List ℕ) (t : Bool) (x y : Piece) → (t ≡ true → PieceFits bs x) → (t ≡ false → PieceFits bs y) → PieceFits bs (if t then x else y)
if-fits bs true x y f g = f refl
if-fits bs false x y f g = g refl

if-within : (t : Bool) (x y k : ℕ) → (t ≡ true → x ≤ k) → y ≤ k → (if t then x else y) ≤ k
if-within true x y k f g = f refl
if-within false x y k f g = g

if-suc : (t : Bool) (m n : ℕ) → m ≤ n → (if t then suc m else 0) ≤ suc n
if-suc true m n h = omega arith
if-suc false m n h = omega arith

-- names
name-within : (bs : List ℕ) → name_size bs ≤ length bs
name-within [] = omega arith
name-within (b ∷ bs) = if-suc (is_name_byte b) (name_size bs) (length bs) (name-within bs)

name-some : (b : ℕ) (bs : List ℕ) → is_name_start b ≡ true → 0 < name_size (b ∷ bs)
name-some b bs h = rw h (omega arith)

-- digits
digits-within : (base : ℕ) (bs : List ℕ) → digits_size base bs ≤ length bs
digits-within base [] = omega arith
digits-within base (b ∷ bs) = if-suc (is_digit_of base b) (digits_size base bs) (length bs) (digits-within base bs)

decimal_digit : (b : ℕ) → is_digit b ≡ true → is_digit_of 10 b ≡ true
decimal_digit b h = grind (arith, nat_tests)

decimal-fits : (b : ℕ) (bs : List ℕ) → is_digit b ≡ true → Sized (decimal_size (b ∷ bs)) (b ∷ bs)
decimal-fits b bs h = by_zero (nat_eq b 48)
  where
    by_zero : (t : Bool) → Sized (if t then 1 else digits_size 10 (b ∷ bs)) (b ∷ bs)
    by_zero true = record { some = omega arith; within = omega arith }
    by_zero false = record { some = rw (decimal_digit b h) (omega arith); within = digits-within 10 (b ∷ bs) }

base_room : (base small capital : ℕ) (bs : List ℕ) → has_base base small capital bs ≡ true → 2 ≤ length bs
base_room base small capital [] h = cc
base_room base small capital (x ∷ []) h = cc
base_room base small capital (x ∷ (y ∷ bs)) h = omega arith

base-room : (bs : List ℕ) → nat_eq (base_of bs) 10 ≡ false → 2 ≤ length bs
base-room bs h = by_base (has_base 16 120 88 bs) (has_base 8 111 79 bs) (has_base 2 98 66 bs) refl refl refl h
  where
    by_base : (t u v : Bool) → has_base 16 120 88 bs ≡ t → has_base 8 111 79 bs ≡ u → has_base 2 98 66 bs ≡ v →
        nat_eq (if t then 16 else (if u then 8 else (if v then 2 else 10))) 10 ≡ false → 2 ≤ length bs
    by_base true u v k l m e = base_room 16 120 88 bs k
    by_base false true v k l m e = base_room 8 111 79 bs l
    by_base false false true k l m e = base_room 2 98 66 bs m
    by_base false false false k l m e = cc

number-sized : (b : ℕ) (bs : List ℕ) → is_digit b ≡ true → Sized (number_size (b ∷ bs)) (b ∷ bs)
number-sized b bs h = by_base (nat_eq (base_of (b ∷ bs)) 10) refl
  where
    by_base : (t : Bool) → nat_eq (base_of (b ∷ bs)) 10 ≡ t → Sized (if t then decimal_size (b ∷ bs) else 2 + digits_size (base_of (b ∷ bs)) (drop 2 (b ∷ bs))) (b ∷ bs)
    by_base true e = decimal-fits b bs h
    by_base false e =
        let room = base-room (b ∷ bs) e in
        let digits = digits-within (base_of (b ∷ bs)) (drop 2 (b ∷ bs)) in
        record { some = omega arith; within = omega (arith, length-drop 2 (b ∷ bs)) }

before-fits : (bs rest : List ℕ) (base value size : ℕ) → Sized size bs → PieceFits bs (number_before base value size rest)
before-fits bs [] base value size h = h
before-fits bs (c ∷ rest) base value size h =
    if-fits bs (is_unsupported_end base c) (refused Unsupported 0) _ (λ _. omega arith) (λ _.
    if-fits bs (is_name_byte c) (refused Character size) (token (Number (pos value)) size) (λ _. h.within) (λ _. h))

number-fits : (b : ℕ) (bs : List ℕ) → is_digit b ≡ true → PieceFits (b ∷ bs) (number (b ∷ bs))
number-fits b bs h =
    if-fits (b ∷ bs) (nat_lt GREATEST (number_value (b ∷ bs))) (refused NumberRange 0) _ (λ _. omega arith)
    (λ _. before-fits (b ∷ bs) (drop (number_size (b ∷ bs)) (b ∷ bs)) (base_of (b ∷ bs)) (number_value (b ∷ bs)) (number_size (b ∷ bs)) (number-sized b bs h))

-- literals
abbrev LiteralFits : List ℕ → Literal → Type 0
LiteralFits bs (closed content n) = Sized n bs
LiteralFits bs unclosed = Unit {0}
LiteralFits bs (wrong n) = n ≤ length bs

if-literal : (bs : List ℕ) (t : Bool) (x y : Literal) → LiteralFits bs x → LiteralFits bs y → LiteralFits bs (if t then x else y)
if-literal bs true x y f g = f
if-literal bs false x y f g = g

behind-fits : (b : ℕ) (bs before : List ℕ) (l : Literal) → LiteralFits bs l → LiteralFits (b ∷ bs) (behind before 1 l)
behind-fits b bs before (closed content n) h = record { some = omega arith; within = omega (arith, h.within) }
behind-fits b bs before unclosed h = tt
behind-fits b bs before (wrong n) h = omega arith

escape-fits : (b : ℕ) (bs : List ℕ) (o : Option Escape) (f : Escape → Literal) → ((e : Escape) → LiteralFits (b ∷ bs) (f e)) → LiteralFits (b ∷ bs) (if_escape bs o f)
escape-fits b [] o f h = tt
escape-fits b (c ∷ bs) None f h = omega arith
escape-fits b (c ∷ bs) (Some e) f h = h e

literal-fits : (quote skip : ℕ) (bs : List ℕ) → LiteralFits bs (literal quote skip bs)
literal-fits quote skip [] = tt
literal-fits quote zero (b ∷ bs) =
    if-literal (b ∷ bs) (nat_eq b quote) (closed [] 1) _ (record { some = omega arith; within = omega arith }) (
    if-literal (b ∷ bs) (is_break b) unclosed _ tt (
    if-literal (b ∷ bs) (nat_eq b 92) _ _
    (escape-fits b bs (escape bs) _ (λ e. behind-fits b bs (spelled e.1) (literal quote e.0 bs) (literal-fits quote e.0 bs)))
    (behind-fits b bs (b ∷ []) (literal quote 0 bs) (literal-fits quote 0 bs))))
literal-fits quote (suc skip) (b ∷ bs) = behind-fits b bs [] (literal quote skip bs) (literal-fits quote skip bs)

quoted-fits : (b : ℕ) (bs : List ℕ) (l : Literal) → LiteralFits bs l → PieceFits (b ∷ bs) (quoted l)
quoted-fits b bs (closed content n) h = record { some = omega arith; within = omega (arith, h.within) }
quoted-fits b bs unclosed h = omega arith
quoted-fits b bs (wrong n) h = omega arith

-- gaps
begins-within : (bs front : List ℕ) → begins bs front ≡ true → length front ≤ length bs
begins-within bs front h =
    let e = ap (λ (xs : List ℕ). length xs) ((bytes_eq-Decides front (take (length front) bs)).0 h) in
    omega (arith, e, length-take (length front) bs)

either : (t u : Bool) (P : Type 0) → (t ≡ true → P) → (u ≡ true → P) → t || u ≡ true → P
either true u P f g h = f refl
either false u P f g h = g h

blank-within : (bs : List ℕ) → blank_size bs ≤ length bs
blank-within bs =
    if-within _ 1 _ (length bs)
    (either _ _ (1 ≤ length bs) (either _ _ (1 ≤ length bs) (either _ _ (1 ≤ length bs) (begins-within bs (9 ∷ [])) (begins-within bs (11 ∷ []))) (begins-within bs (12 ∷ []))) (begins-within bs (32 ∷ [])))
    (if-within _ 2 _ (length bs) (begins-within bs (194 ∷ (160 ∷ []))) (if-within _ 3 0 (length bs) (begins-within bs (239 ∷ (187 ∷ (191 ∷ [])))) (omega arith)))

line_end-within : (bs : List ℕ) → line_end_size bs ≤ length bs
line_end-within bs =
    if-within _ 2 _ (length bs) (begins-within bs (13 ∷ (10 ∷ [])))
    (if-within _ 1 _ (length bs) (either _ _ (1 ≤ length bs) (begins-within bs (10 ∷ [])) (begins-within bs (13 ∷ [])))
    (if-within _ 3 0 (length bs)
    (either _ _ (3 ≤ length bs) (begins-within bs (226 ∷ (128 ∷ (168 ∷ [])))) (begins-within bs (226 ∷ (128 ∷ (169 ∷ []))))) (omega arith)))

line-within : (bs : List ℕ) → size_of_line bs ≤ length bs
line-within [] = omega arith
line-within (b ∷ bs) = if-suc (nat_eq (line_end_size (b ∷ bs)) 0) (size_of_line bs) (length bs) (line-within bs)

line-some : (b : ℕ) (bs : List ℕ) → nat_eq 47 b ≡ true → 0 < size_of_line (b ∷ bs)
line-some b bs h = rw (← (eqb-true 47 b h)) (omega arith)

close-within : (bs : List ℕ) (n : ℕ) → size_to_close bs ≡ Some n → n ≤ length bs
close-within [] n h = cc
close-within (b ∷ bs) n h = close_by (begins (b ∷ bs) (codes "*/")) refl h (λ m k. close-within bs m k)
  where
    mapped : (o : Option ℕ) → ((m : ℕ) → o ≡ Some m → m ≤ length bs) → option_map suc o ≡ Some n → n ≤ suc (length bs)
    mapped None f e = cc
    mapped (Some m) f e = let d : suc m ≡ n = cc in let i = f m refl in omega arith

    close_by : (t : Bool) → begins (b ∷ bs) (codes "*/") ≡ t → (if t then Some 2 else option_map suc (size_to_close bs)) ≡ Some n →
        ((m : ℕ) → size_to_close bs ≡ Some m → m ≤ length bs) → n ≤ suc (length bs)
    close_by true k e f = let d : 2 ≡ n = cc in let i = begins-within (b ∷ bs) (codes "*/") k in omega arith
    close_by false k e f = mapped (size_to_close bs) f e

-- marks
abbrev no_empty_key : List (List ℕ × Sort) → Bool
no_empty_key [] = true
no_empty_key (e ∷ es) = nat_lt 0 (length e.0) && no_empty_key es

front_in-sized : (es : List (List ℕ × Sort)) (bs : List ℕ) (n : ℕ) → no_empty_key es ≡ true → front_in es bs ≡ Some n → Sized n bs
front_in-sized [] bs n h k = cc
front_in-sized (e ∷ es) bs n h k = key_by (begins bs e.0) refl k (λ m. front_in-sized es bs n (and_parts _ _ h).1 m)
  where
    key_by : (t : Bool) → begins bs e.0 ≡ t → (if t then Some (length e.0) else front_in es bs) ≡ Some n → (front_in es bs ≡ Some n → Sized n bs) → Sized n bs
    key_by true b m f =
        let d : length e.0 ≡ n = cc in
        let some : 0 < length e.0 = grind (arith, nat_tests, (and_parts (nat_lt 0 (length e.0)) (no_empty_key es) h).0) in
        let room = begins-within bs e.0 b in
        record { some = omega arith; within = omega arith }
    key_by false b m f = f m

mark-fits : (bs : List ℕ) (o : Option ℕ) → front_in all_marks bs ≡ o → PieceFits bs (mark bs o)
mark-fits bs None h = omega arith
mark-fits bs (Some n) h = front_in-sized all_marks bs n refl h

block-fits : (bs : List ℕ) (o : Option ℕ) → 2 ≤ length bs → size_to_close (drop 2 bs) ≡ o → PieceFits bs (block o)
block-fits bs None r h = omega arith
block-fits bs (Some n) r h =
    let i = close-within (drop 2 bs) n h in
    record { some = omega arith; within = omega (arith, length-drop 2 bs) }

comment_or_mark-fits : (b : ℕ) (bs : List ℕ) → PieceFits (b ∷ bs) (comment_or_mark (b ∷ bs))
comment_or_mark-fits b bs =
    if-fits (b ∷ bs) (begins (b ∷ bs) (codes "//")) _ _
    (λ h. record { some = line-some b bs (and_parts (nat_eq 47 b) _ h).0; within = line-within (b ∷ bs) }) (λ _.
    if-fits (b ∷ bs) (begins (b ∷ bs) (codes "/*")) _ _
    (λ h. block-fits (b ∷ bs) (size_to_close (drop 2 (b ∷ bs))) (begins-within (b ∷ bs) (codes "/*") h) refl)
    (λ _. mark-fits (b ∷ bs) (front_in all_marks (b ∷ bs)) refl))

gap_or-fits : (bs : List ℕ) (n : ℕ) (other : Piece) → n ≤ length bs → PieceFits bs other → PieceFits bs (gap_or n other)
gap_or-fits bs zero other h k = k
gap_or-fits bs (suc n) other h k = record { some = omega arith; within = h }

pub front-fits : (bs : List ℕ) → PieceFits bs (front bs)
front-fits [] = tt
front-fits (b ∷ bs) =
    if-fits (b ∷ bs) (is_name_start b) _ _ (λ h. record { some = name-some b bs h; within = name-within (b ∷ bs) }) (λ _.
    if-fits (b ∷ bs) (is_digit b) _ _ (λ h. number-fits b bs h) (λ _.
    if-fits (b ∷ bs) (is_quote b) _ _ (λ _. quoted-fits b bs (literal b 0 bs) (literal-fits b 0 bs)) (λ _.
    if-fits (b ∷ bs) (nat_eq b 96 || is_dot_digit b bs) (refused Unsupported 0) (gap_or_mark (b ∷ bs)) (λ _. omega arith) (λ _.
    gap_or-fits (b ∷ bs) (blank_size (b ∷ bs)) _ (blank-within (b ∷ bs))
    (gap_or-fits (b ∷ bs) (line_end_size (b ∷ bs)) _ (line_end-within (b ∷ bs)) (comment_or_mark-fits b bs))))))
