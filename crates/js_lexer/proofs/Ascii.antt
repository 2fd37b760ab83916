-- Names and marks are ASCII; a character begins after a quote.
use Rattle.std.proofs.Common.{◌≡◌, ℕ, zero, suc, ◌+◌, ◌<◌, nat_lt, Bool, true, false, ◌&&◌, List, [], ◌∷◌, Some, if◌then◌else◌, length, get_or, take, drop, refl, arith}
use Rattle.std.specs.Str.{IsUtf8, IsCharBoundary}
use Rattle.std.proofs.lemmas.Str.{IsUtf8-from_ascii, IsCharBoundary-after_ascii}
use Rattle.std.proofs.lemmas.Bool.Decides.{nat_tests}
use Rattle.std.proofs.lemmas.Bool.{and_parts}
use Rattle.std.proofs.lemmas.Slice.Eq.{bytes_eq-Decides}
use Rattle.js_data.proofs.Shared.{drop_next}
use Rattle.bp_tables.specs.Found.{front_in}
use Rattle.js_lexer.specs.declared.sort.Sort.{Sort}
use Rattle.js_lexer.specs.Bytes.{begins, is_name_byte, is_quote}
use Rattle.js_lexer.specs.Front.{name_size}
use Rattle.js_lexer.specs.Spellings.{all_marks}

name_small : (b : ℕ) → is_name_byte b ≡ true → b < 128
name_small b h = grind (arith, nat_tests)

name_by : (b : ℕ) (bs : List ℕ) (t : Bool) → is_name_byte b ≡ t → ((i : ℕ) → get_or (take (name_size bs) bs) i 0 < 128) →
    (i : ℕ) → get_or (take (if t then suc (name_size bs) else 0) (b ∷ bs)) i 0 < 128
name_by b bs true h f zero = name_small b h
name_by b bs true h f (suc i) = f i
name_by b bs false h f i = omega arith

name_ascii : (bs : List ℕ) (i : ℕ) → get_or (take (name_size bs) bs) i 0 < 128
name_ascii [] i = omega arith
name_ascii (b ∷ bs) i = name_by b bs (is_name_byte b) refl (name_ascii bs) i

pub name_utf8 : (bs : List ℕ) → IsUtf8 (take (name_size bs) bs)
name_utf8 bs = IsUtf8-from_ascii (take (name_size bs) bs) (λ i. name_ascii bs i)

-- each byte is ASCII
abbrev pub are_small : List ℕ → Bool
are_small [] = true
are_small (b ∷ bs) = nat_lt b 128 && are_small bs

abbrev keys_are_small : List (List ℕ × Sort) → Bool
keys_are_small [] = true
keys_are_small (e ∷ es) = are_small e.0 && keys_are_small es

pub small_ascii : (bs : List ℕ) → are_small bs ≡ true → (i : ℕ) → get_or bs i 0 < 128
small_ascii [] h i = omega arith
small_ascii (b ∷ bs) h zero = grind (arith, nat_tests)
small_ascii (b ∷ bs) h (suc i) = small_ascii bs (and_parts _ _ h).1 i

key_by : (e : List ℕ × Sort) (es : List (List ℕ × Sort)) (bs : List ℕ) (n : ℕ) (t : Bool) → begins bs e.0 ≡ t → are_small e.0 ≡ true →
    (if t then Some (length e.0) else front_in es bs) ≡ Some n → (front_in es bs ≡ Some n → are_small (take n bs) ≡ true) → are_small (take n bs) ≡ true
key_by e es bs n true h s k f =
    let m : length e.0 ≡ n = cc in
    rw (← m, ← ((bytes_eq-Decides e.0 (take (length e.0) bs)).0 h)) s
key_by e es bs n false h s k f = f k

key_ascii : (es : List (List ℕ × Sort)) (bs : List ℕ) (n : ℕ) → keys_are_small es ≡ true → front_in es bs ≡ Some n → are_small (take n bs) ≡ true
key_ascii [] bs n h k = cc
key_ascii (e ∷ es) bs n h k = key_by e es bs n (begins bs e.0) refl (and_parts _ _ h).0 k (λ l. key_ascii es bs n (and_parts _ _ h).1 l)

pub mark_utf8 : (bs : List ℕ) (n : ℕ) → front_in all_marks bs ≡ Some n → IsUtf8 (take n bs)
mark_utf8 bs n h = IsUtf8-from_ascii (take n bs) (small_ascii (take n bs) (key_ascii all_marks bs n refl h))

pub behind_quote : (text behind : List ℕ) (place quote : ℕ) → drop place text ≡ quote ∷ behind → drop (place + 1) text ≡ behind
behind_quote text behind place quote h = (drop_next text place quote behind h).2

pub quote_boundary : (text behind : List ℕ) (place quote : ℕ) → IsUtf8 text → is_quote quote ≡ true → drop place text ≡ quote ∷ behind → IsCharBoundary text (place + 1)
quote_boundary text behind place quote u q h =
    let k = drop_next text place quote behind h in
    let small : get_or text place 0 < 128 = rw (k.1 0) (grind (arith, nat_tests)) in
    IsCharBoundary-after_ascii text place u k.0 small
