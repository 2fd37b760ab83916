-- Tokens stand in order; the longest mark is the token.
use Rattle.std.proofs.Common.{◌≡◌, ℕ, zero, suc, ◌+◌, ◌-◌, ◌≤◌, nat_eq, nat_lt, nat_le, Bool, true, false, not, ◌&&◌, ◌||◌, List, [], ◌∷◌, ◌++◌, codes, pos, Option, Some, None, is_some, if◌then◌else◌, length, take, drop, refl, subst, arith, length-drop}
use Rattle.std.specs.Str.{bytes_eq}
use Rattle.std.proofs.lemmas.Bool.{and_from, and_parts, or_right, le-leb, leb-true}
use Rattle.std.proofs.lemmas.Slice.Eq.{bytes_eq-Decides}
use Rattle.bp_tables.specs.Found.{find_in, front_in}
use Rattle.js_lexer.specs.declared.sort.Sort.{Sort}
use Rattle.js_lexer.specs.declared.numbers.TheConstants.{GREATEST}
use Rattle.js_lexer.specs.declared.token.Kind.{Kind}
use Rattle.js_lexer.specs.declared.token.Kind.TheVariants.{Name, Keyword, Number}
use Rattle.js_lexer.specs.declared.token.Flaw.TheVariants.{Character, NumberRange, Unsupported}
use Rattle.js_lexer.specs.declared.token.Token.{Token}
use Rattle.js_lexer.specs.Bytes.{begins, is_digit, is_name_start, is_name_byte, is_quote}
use Rattle.js_lexer.specs.Gaps.{blank_size, line_end_size, size_of_line, size_to_close}
use Rattle.js_lexer.specs.Spellings.{all_keywords, marks, unsupported_marks, all_marks}
use Rattle.js_lexer.specs.Numbers.{base_of, number_size, number_value, is_unsupported_end}
use Rattle.js_lexer.specs.Literals.{Literal, closed, unclosed, wrong, literal}
use Rattle.js_lexer.specs.Front.{Piece, nothing, gap, token, refused, name_size, number_before, quoted, block, mark, is_dot_digit, gap_or, gap_or_mark, front}
use Rattle.js_lexer.specs.Cut.{CutFrom, cut_end, cut_gap, cut_token}
use Rattle.js_lexer.specs.Laws.{IsSpelled, ArePlaced, TokensInOrder, none_longer, LongestMark}
use Rattle.js_lexer.proofs.Fits.{PieceFits, Sized, front-fits}

-- what stands in front is its bytes
abbrev PieceSpelled : List ℕ → Piece → Type 0
PieceSpelled bs nothing = Unit {0}
PieceSpelled bs (gap n) = Unit {0}
PieceSpelled bs (token kind n) = IsSpelled kind (take n bs)
PieceSpelled bs (refused flaw n) = Unit {0}

if-spelled : (bs : List ℕ) (t : Bool) (x y : Piece) → PieceSpelled bs x → PieceSpelled bs y → PieceSpelled bs (if t then x else y)
if-spelled bs true x y f g = f
if-spelled bs false x y f g = g

name-spelled : (t : Bool) (text : List ℕ) → IsSpelled (if t then Keyword text else Name text) text
name-spelled true text = refl
name-spelled false text = refl

before-spelled : (bs rest : List ℕ) (base value size : ℕ) → PieceSpelled bs (number_before base value size rest)
before-spelled bs [] base value size = tt
before-spelled bs (c ∷ rest) base value size =
    if-spelled bs (is_unsupported_end base c) (refused Unsupported 0) _ tt (if-spelled bs (is_name_byte c) (refused Character size) (token (Number (pos value)) size) tt tt)

quoted-spelled : (bs : List ℕ) (l : Literal) → PieceSpelled bs (quoted l)
quoted-spelled bs (closed content n) = tt
quoted-spelled bs unclosed = tt
quoted-spelled bs (wrong n) = tt

block-spelled : (bs : List ℕ) (o : Option ℕ) → PieceSpelled bs (block o)
block-spelled bs None = tt
block-spelled bs (Some n) = tt

mark-spelled : (bs : List ℕ) (o : Option ℕ) → PieceSpelled bs (mark bs o)
mark-spelled bs None = tt
mark-spelled bs (Some n) = refl

gap_or-spelled : (bs : List ℕ) (n : ℕ) (other : Piece) → PieceSpelled bs other → PieceSpelled bs (gap_or n other)
gap_or-spelled bs zero other k = k
gap_or-spelled bs (suc n) other k = tt

front-spelled : (bs : List ℕ) → PieceSpelled bs (front bs)
front-spelled [] = tt
front-spelled (b ∷ bs) =
    if-spelled (b ∷ bs) (is_name_start b) _ _ (name-spelled (is_some (find_in all_keywords (take (name_size (b ∷ bs)) (b ∷ bs)))) (take (name_size (b ∷ bs)) (b ∷ bs))) (
    if-spelled (b ∷ bs) (is_digit b) _ _
    (if-spelled (b ∷ bs) (nat_lt GREATEST (number_value (b ∷ bs))) (refused NumberRange 0) _ tt
    (before-spelled (b ∷ bs) (drop (number_size (b ∷ bs)) (b ∷ bs)) (base_of (b ∷ bs)) (number_value (b ∷ bs)) (number_size (b ∷ bs)))) (
    if-spelled (b ∷ bs) (is_quote b) _ _ (quoted-spelled (b ∷ bs) (literal b 0 bs)) (
    if-spelled (b ∷ bs) (nat_eq b 96 || is_dot_digit b bs) (refused Unsupported 0) (gap_or_mark (b ∷ bs)) tt (
    gap_or-spelled (b ∷ bs) (blank_size (b ∷ bs)) _ (
    gap_or-spelled (b ∷ bs) (line_end_size (b ∷ bs)) _ (
    if-spelled (b ∷ bs) (begins (b ∷ bs) (codes "//")) (gap (size_of_line (b ∷ bs))) _ tt (
    if-spelled (b ∷ bs) (begins (b ∷ bs) (codes "/*")) (block (size_to_close (drop 2 (b ∷ bs)))) _ (block-spelled (b ∷ bs) (size_to_close (drop 2 (b ∷ bs))))
    (mark-spelled (b ∷ bs) (front_in all_marks (b ∷ bs))))))))))

token_sized : (bs : List ℕ) (kind : Kind) (n : ℕ) → front bs ≡ token kind n → Sized n bs
token_sized bs kind n h = subst (λ (p : Piece). PieceFits bs p) h (front-fits bs)

token_spelled : (bs : List ℕ) (kind : Kind) (n : ℕ) → front bs ≡ token kind n → IsSpelled kind (take n bs)
token_spelled bs kind n h = subst (λ (p : Piece). PieceSpelled bs p) h (front-spelled bs)

placed : (bytes : List ℕ) {first : Bool} {place : ℕ} {ts : List Token} (low : ℕ) → low ≤ place → CutFrom bytes first place ts → ArePlaced bytes low ts
placed bytes low l (cut_end h) = tt
placed bytes low l (cut_gap {n = n} h d) = placed bytes low (omega arith) d
placed bytes low l (cut_token {place = place} {n = n} {kind = kind} h d) =
    let s = token_sized (drop place bytes) kind n h in
    let e : place + n - place ≡ n = omega arith in (
      record {
        order = l;
        some = omega (arith, s.some);
        within = omega (arith, s.some, s.within, length-drop place bytes);
        line = refl;
        spelled = rw e (token_spelled (drop place bytes) kind n h);
      },
      placed bytes (place + n) (omega arith) d,
    )

pub tokens_in_order : (bytes : List ℕ) → TokensInOrder bytes
tokens_in_order bytes ts d = placed bytes 0 (omega arith) d

-- no entry is longer than the one before it
abbrev is_falling : ℕ → List (List ℕ × Sort) → Bool
is_falling n [] = true
is_falling n (e ∷ es) = nat_le (length e.0) n && is_falling (length e.0) es

falling-none : (m n : ℕ) (es : List (List ℕ × Sort)) (bs : List ℕ) → m ≤ n → is_falling m es ≡ true → none_longer n es bs ≡ true
falling-none m n [] bs l h = refl
falling-none m n (e ∷ es) bs l h =
    let k = leb-true (length e.0) m (and_parts (nat_le (length e.0) m) (is_falling (length e.0) es) h).0 in
    and_from _ _ (or_right (not (begins bs e.0)) _ (le-leb (length e.0) n (omega arith)))
    (falling-none (length e.0) n es bs (omega arith) (and_parts (nat_le (length e.0) m) (is_falling (length e.0) es) h).1)

front-longest : (m n : ℕ) (es : List (List ℕ × Sort)) (bs : List ℕ) → is_falling m es ≡ true → front_in es bs ≡ Some n → none_longer n es bs ≡ true
front-longest m n [] bs h k = cc
front-longest m n (e ∷ es) bs h k = by_test (begins bs e.0) k (λ l. front-longest (length e.0) n es bs falls l)
  where
    falls : is_falling (length e.0) es ≡ true
    falls = (and_parts (nat_le (length e.0) m) (is_falling (length e.0) es) h).1

    by_test : (t : Bool) → (if t then Some (length e.0) else front_in es bs) ≡ Some n → (front_in es bs ≡ Some n → none_longer n es bs ≡ true) →
        (not t || nat_le (length e.0) n) && none_longer n es bs ≡ true
    by_test true l f =
        let d : length e.0 ≡ n = cc in
        and_from _ _ (le-leb (length e.0) n (omega arith)) (falling-none (length e.0) n es bs (omega arith) falls)
    by_test false l f = f l

-- an entry of the list has the key
abbrev is_among : List ℕ → List (List ℕ × Sort) → Bool
is_among key [] = false
is_among key (e ∷ es) = bytes_eq e.0 key || is_among key es

abbrev are_among : List (List ℕ × Sort) → List (List ℕ × Sort) → Bool
are_among [] es = true
are_among (f ∷ fs) es = is_among f.0 es && are_among fs es

none-at : (n : ℕ) (es : List (List ℕ × Sort)) (bs key : List ℕ) → none_longer n es bs ≡ true → is_among key es ≡ true → not (begins bs key) || nat_le (length key) n ≡ true
none-at n [] bs key h k = cc
none-at n (e ∷ es) bs key h k = by_test (bytes_eq e.0 key) refl k (λ l. none-at n es bs key (and_parts (not (begins bs e.0) || nat_le (length e.0) n) (none_longer n es bs) h).1 l)
  where
    by_test : (t : Bool) → bytes_eq e.0 key ≡ t → t || is_among key es ≡ true →
        (is_among key es ≡ true → not (begins bs key) || nat_le (length key) n ≡ true) → not (begins bs key) || nat_le (length key) n ≡ true
    by_test true l m f =
        subst (λ (xs : List ℕ). not (begins bs xs) || nat_le (length xs) n ≡ true) ((bytes_eq-Decides e.0 key).0 l)
        (and_parts (not (begins bs e.0) || nat_le (length e.0) n) (none_longer n es bs) h).0
    by_test false l m f = f m

none-all : (n : ℕ) (es fs : List (List ℕ × Sort)) (bs : List ℕ) → none_longer n es bs ≡ true → are_among fs es ≡ true → none_longer n fs bs ≡ true
none-all n es [] bs h k = refl
none-all n es (f ∷ fs) bs h k =
    and_from _ _ (none-at n es bs f.0 h (and_parts (is_among f.0 es) (are_among fs es) k).0) (none-all n es fs bs h (and_parts (is_among f.0 es) (are_among fs es) k).1)

pub longest_mark : (bytes : List ℕ) → LongestMark bytes
longest_mark bytes n h = none-all n all_marks (marks ++ unsupported_marks) bytes (front-longest 4 n all_marks bytes refl h) refl
