-- A literal read piece by piece.
use Rattle.std.proofs.Common.{◌≡◌, ℕ, zero, suc, ◌+◌, ◌<◌, ◌≤◌, nat_eq, Bool, true, false, List, [], ◌∷◌, ◌++◌, Some, None, length, get_or, take, drop, refl, sym, ap, ◌∙◌, append_assoc, append-nil, add_assoc, arith}
use Rattle.std.specs.Str.{IsUtf8, IsCharBoundary}
use Rattle.std.specs.List.{slice_index}
use Rattle.std.proofs.lemmas.Bool.Decides.{nat_tests}
use Rattle.js_lexer.specs.declared.token.Flaw.TheVariants.{Escape as Escape'}
use Rattle.js_lexer.specs.Front.{quoted, refused}
use Rattle.js_lexer.specs.inner.Found.{Read, stuck}
use Rattle.js_lexer.proofs.Ends.{escape_boundary, escape_fits}
use Rattle.js_lexer.specs.Literals.{Escape, is_break, escape, spelled, Literal, closed, unclosed, wrong, behind, literal, plain_size}

pub behind-none : (l : Literal) → behind [] 0 l ≡ l
behind-none (closed content n) = let h : 0 + n ≡ n = omega arith in rw h refl
behind-none unclosed = refl
behind-none (wrong n) = let h : 0 + n ≡ n = omega arith in rw h refl

pub behind-behind : (a b : List ℕ) (m n : ℕ) (l : Literal) → behind a m (behind b n l) ≡ behind (a ++ b) (m + n) l
behind-behind a b m n (closed content k) = rw (append_assoc, add_assoc) refl
behind-behind a b m n unclosed = refl
behind-behind a b m n (wrong k) = rw add_assoc refl

-- after this many bytes that were read
pub literal-skip : (quote n : ℕ) (bs : List ℕ) → n ≤ length bs → literal quote n bs ≡ behind [] n (literal quote 0 (drop n bs))
literal-skip quote zero bs h = sym (behind-none (literal quote 0 bs))
literal-skip quote (suc n) [] h = absurd (omega arith)
literal-skip quote (suc n) (b ∷ bs) h =
    let k : 1 + n ≡ suc n = omega arith in
    ap (behind [] 1) (literal-skip quote n bs (omega arith)) ∙ (behind-behind [] [] 1 n _ ∙ rw k refl)

-- after a run of bytes that stand for themselves
stop : (quote n : ℕ) (bs : List ℕ) → n ≡ 0 → literal quote 0 bs ≡ behind (take n bs) n (literal quote 0 (drop n bs))
stop quote n bs h = rw h (sym (behind-none (literal quote 0 bs)))

abbrev IsPlain : ℕ → List ℕ → ℕ → Type 0
IsPlain quote bs n = literal quote 0 bs ≡ behind (take n bs) n (literal quote 0 (drop n bs))

plain_by : (quote b : ℕ) (bs : List ℕ) (t u v : Bool) → nat_eq b quote ≡ t → is_break b ≡ u → nat_eq b 92 ≡ v →
    IsPlain quote bs (plain_size quote bs) → IsPlain quote (b ∷ bs) (plain_size quote (b ∷ bs))
plain_by quote b bs true u v h k l e = stop quote (plain_size quote (b ∷ bs)) (b ∷ bs) (rw h refl)
plain_by quote b bs false true v h k l e = stop quote (plain_size quote (b ∷ bs)) (b ∷ bs) (rw (h, k) refl)
plain_by quote b bs false false true h k l e = stop quote (plain_size quote (b ∷ bs)) (b ∷ bs) (rw (h, k, l) refl)
plain_by quote b bs false false false h k l e =
    let c : 1 + plain_size quote bs ≡ suc (plain_size quote bs) = omega arith in
    rw (h, k, l) (ap (behind (b ∷ []) 1) e ∙
    (behind-behind (b ∷ []) (take (plain_size quote bs) bs) 1 (plain_size quote bs) (literal quote 0 (drop (plain_size quote bs) bs)) ∙ rw c refl))

pub literal-plain : (quote : ℕ) (bs : List ℕ) →
    literal quote 0 bs ≡ behind (take (plain_size quote bs) bs) (plain_size quote bs) (literal quote 0 (drop (plain_size quote bs) bs))
literal-plain quote [] = refl
literal-plain quote (b ∷ bs) = plain_by quote b bs (nat_eq b quote) (is_break b) (nat_eq b 92) refl refl refl (literal-plain quote bs)

-- a run ends at the text's end or at an ASCII byte
plain_small : (quote b : ℕ) (bs : List ℕ) (t u v : Bool) → nat_eq b quote ≡ t → is_break b ≡ u → nat_eq b 92 ≡ v → quote < 128 →
    (plain_size quote bs < length bs → get_or bs (plain_size quote bs) 0 < 128) →
    plain_size quote (b ∷ bs) < length (b ∷ bs) → get_or (b ∷ bs) (plain_size quote (b ∷ bs)) 0 < 128
plain_small quote b bs true u v h k l q e f = rw h (grind (arith, nat_tests))
plain_small quote b bs false true v h k l q e f = rw (h, k) (grind (arith, nat_tests))
plain_small quote b bs false false true h k l q e f = rw (h, k, l) (grind (arith, nat_tests))
plain_small quote b bs false false false h k l q e f = let g : suc (plain_size quote bs) < suc (length bs) = rw (h, k, l) at f in rw (h, k, l) (e (omega arith))

plain_at : (quote : ℕ) (bs : List ℕ) → quote < 128 → plain_size quote bs < length bs → get_or bs (plain_size quote bs) 0 < 128
plain_at quote [] q h = absurd (omega arith)
plain_at quote (b ∷ bs) q h = plain_small quote b bs (nat_eq b quote) (is_break b) (nat_eq b 92) refl refl refl q (plain_at quote bs q) h

plain_by_within : (quote b : ℕ) (bs : List ℕ) (t u v : Bool) → nat_eq b quote ≡ t → is_break b ≡ u → nat_eq b 92 ≡ v →
    plain_size quote bs ≤ length bs → plain_size quote (b ∷ bs) ≤ length (b ∷ bs)
plain_by_within quote b bs true u v h k l e = rw h (omega arith)
plain_by_within quote b bs false true v h k l e = rw (h, k) (omega arith)
plain_by_within quote b bs false false true h k l e = rw (h, k, l) (omega arith)
plain_by_within quote b bs false false false h k l e = rw (h, k, l) (omega arith)

plain_within : (quote : ℕ) (bs : List ℕ) → plain_size quote bs ≤ length bs
plain_within quote [] = omega arith
plain_within quote (b ∷ bs) = plain_by_within quote b bs (nat_eq b quote) (is_break b) (nat_eq b 92) refl refl refl (plain_within quote bs)

pub plain_boundary : (quote : ℕ) (bs : List ℕ) → quote < 128 → IsCharBoundary bs (plain_size quote bs)
plain_boundary quote bs h = (plain_within quote bs, λ l k. let m : slice_index bs (plain_size quote bs) < 128 = plain_at quote bs h l in absurd (omega arith))

-- a run is read
pub read_run : (quote n : ℕ) (rest before after : List ℕ) → quote < 128 → n ≡ plain_size quote rest → 0 < n → after ≡ before ++ take n rest →
    Read quote rest before after n
read_run quote n rest before after q e s a = record {
  same = λ size. rw (a, e) (ap (behind before size) (literal-plain quote rest) ∙ behind-behind before (take (plain_size quote rest) rest) size (plain_size quote rest) _);
  boundary = rw e (plain_boundary quote rest q);
  some = s;
}

-- an escape is read
escape_same : (quote : ℕ) (bs : List ℕ) (e : Escape) → nat_eq 92 quote ≡ false → escape bs ≡ Some e →
    literal quote 0 (92 ∷ bs) ≡ behind (spelled e.1) (1 + e.0) (literal quote 0 (drop (1 + e.0) (92 ∷ bs)))
escape_same quote [] e h k = cc
escape_same quote (b ∷ bs) e h k =
    let c : 1 + e.0 ≡ suc e.0 = omega arith in
    rw (h, k) (ap (behind (spelled e.1) 1) (literal-skip quote e.0 (b ∷ bs) (escape_fits (b ∷ bs) e k)) ∙
    (behind-behind (spelled e.1) [] 1 e.0 (literal quote 0 (drop e.0 (b ∷ bs))) ∙ rw (append-nil, c) refl))

pub read_escape : (quote n : ℕ) (rest bs before after : List ℕ) (e : Escape) → nat_eq 92 quote ≡ false → IsUtf8 rest → rest ≡ 92 ∷ bs → escape bs ≡ Some e →
    n ≡ 1 + e.0 → after ≡ before ++ spelled e.1 → Read quote rest before after n
read_escape quote n rest bs before after e q u r h m a = record {
  same = λ size. rw (a, m, r) (ap (behind before size) (escape_same quote bs e q h) ∙ behind-behind before (spelled e.1) size (1 + e.0) _);
  boundary = rw m (escape_boundary rest bs e u r h);
  some = omega arith;
}

-- no escape is read
pub refused_escape : (quote size : ℕ) (rest bs before : List ℕ) → nat_eq 92 quote ≡ false → rest ≡ 92 ∷ bs → escape bs ≡ None →
    quoted (behind before size (literal quote 0 rest)) ≡ stuck size bs
refused_escape quote size rest [] before q r h = rw (r, q) refl
refused_escape quote size rest (b ∷ bs) before q r h = rw (r, q, h) (ap (λ (m : ℕ). refused Escape' m) (omega arith))
