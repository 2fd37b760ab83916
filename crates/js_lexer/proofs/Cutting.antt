-- Laws of cutting.
use Rattle.std.proofs.Common.{◌≡◌, ℕ, zero, suc, ◌+◌, ◌<◌, ◌≤◌, nat_lt, Bool, true, false, ◌||◌, List, [], ◌∷◌, ◌++◌, length, drop, ◌⊎◌, inl, inr, refl, sym, ap, ◌∙◌, subst, arith, append_assoc, append-nil, length-drop}
use mathlib.Core.Path.{path_j'}
use Rattle.js_lexer.specs.declared.sort.Sort.{Sort}
use Rattle.js_lexer.specs.declared.token.Kind.{Kind}
use Rattle.js_lexer.specs.declared.token.Flaw.{Flaw}
use Rattle.js_lexer.specs.declared.token.Token.{Token}
use Rattle.js_lexer.specs.Sorts.{kind_sort}
use Rattle.js_lexer.specs.Gaps.{line_ends, line_of}
use Rattle.js_lexer.specs.Front.{Piece, nothing, gap, token, refused, front}
use Rattle.js_lexer.specs.Cut.{CutFrom, cut_end, cut_gap, cut_token, Cut, RefusedFrom, refused_here, refused_behind_gap, refused_behind_token, Refused}
use Rattle.js_lexer.specs.Laws.{OneCutting, OneRefusal, NeverBoth, CutOrRefused}
use Rattle.js_lexer.proofs.Fits.{PieceFits, front-fits}

-- at a place one thing stands in front
same_gap : (p : Piece) (m n : ℕ) → p ≡ gap m → p ≡ gap n → m ≡ n
same_gap p m n h k = cc

same_token : (p : Piece) (a b : Kind) (m n : ℕ) → p ≡ token a m → p ≡ token b n → (a ≡ b) × (m ≡ n)
same_token p a b m n h k = (cc, cc)

same_refusal : (p : Piece) (f g : Flaw) (m n : ℕ) → p ≡ refused f m → p ≡ refused g n → (f ≡ g) × (m ≡ n)
same_refusal p f g m n h k = (cc, cc)

apart_gap : (p : Piece) (f : Flaw) (m n : ℕ) → p ≡ refused f m → p ≡ gap n → ⊥
apart_gap p f m n h k = cc

apart_token : (p : Piece) (f : Flaw) (a : Kind) (m n : ℕ) → p ≡ refused f m → p ≡ token a n → ⊥
apart_token p f a m n h k = cc

apart_both : (p : Piece) (a : Kind) (m n : ℕ) → p ≡ gap m → p ≡ token a n → ⊥
apart_both p a m n h k = cc

cut-unique : (bytes : List ℕ) {first : Bool} {place : ℕ} {ts us : List Token} → CutFrom bytes first place ts → CutFrom bytes first place us → ts ≡ us
cut-unique bytes (cut_end h) (cut_end k) = refl
cut-unique bytes (cut_end h) (cut_gap k e) = cc
cut-unique bytes (cut_end h) (cut_token k e) = cc
cut-unique bytes (cut_gap h d) (cut_end k) = cc
cut-unique bytes (cut_gap {new_line = first} {place = place} {n = m} h d) (cut_gap {n = n} {tokens = us} k e) =
    let same = same_gap (front (drop place bytes)) m n h k in
    cut-unique bytes d (subst (λ (x : ℕ). CutFrom bytes (first || nat_lt 0 (line_ends x (drop place bytes))) (place + x) us) (sym same) e)
cut-unique bytes (cut_gap h d) (cut_token k e) = cc
cut-unique bytes (cut_token h d) (cut_end k) = cc
cut-unique bytes (cut_token h d) (cut_gap k e) = cc
cut-unique bytes (cut_token {place = place} {n = m} {kind = a} h d) (cut_token {n = n} {kind = b} {tokens = us} k e) =
    let same = same_token (front (drop place bytes)) a b m n h k in
    let rest = cut-unique bytes d (subst (λ (x : ℕ). CutFrom bytes false (place + x) us) (sym same.1) e) in
    rw (same.0, same.1, rest) refl

pub one_cutting : (bytes : List ℕ) → OneCutting bytes
one_cutting bytes ts us d e = cut-unique bytes d e

refusal-unique : (bytes : List ℕ) {place p q : ℕ} {f g : Flaw} → RefusedFrom bytes place f p → RefusedFrom bytes place g q → (f ≡ g) × (p ≡ q)
refusal-unique bytes (refused_here {place = place} {n = m} {flaw = f} h) (refused_here {n = n} {flaw = g} k) =
    let same = same_refusal (front (drop place bytes)) f g m n h k in (same.0, ap (λ (x : ℕ). place + x) same.1)
refusal-unique bytes (refused_here h) (refused_behind_gap k e) = absurd (apart_gap _ _ _ _ h k)
refusal-unique bytes (refused_here h) (refused_behind_token k e) = absurd (apart_token _ _ _ _ _ h k)
refusal-unique bytes (refused_behind_gap h d) (refused_here k) = absurd (apart_gap _ _ _ _ k h)
refusal-unique bytes (refused_behind_gap {place = place} {n = m} h d) (refused_behind_gap {n = n} {at = q} {flaw = g} k e) =
    let same = same_gap (front (drop place bytes)) m n h k in
    refusal-unique bytes d (subst (λ (x : ℕ). RefusedFrom bytes (place + x) g q) (sym same) e)
refusal-unique bytes (refused_behind_gap h d) (refused_behind_token k e) = absurd (apart_both _ _ _ _ h k)
refusal-unique bytes (refused_behind_token h d) (refused_here k) = absurd (apart_token _ _ _ _ _ k h)
refusal-unique bytes (refused_behind_token h d) (refused_behind_gap k e) = absurd (apart_both _ _ _ _ k h)
refusal-unique bytes (refused_behind_token {place = place} {n = m} {kind = a} h d) (refused_behind_token {n = n} {at = q} {kind = b} {flaw = g} k e) =
    let same = same_token (front (drop place bytes)) a b m n h k in
    refusal-unique bytes d (subst (λ (x : ℕ). RefusedFrom bytes (place + x) g q) (sym same.1) e)

pub one_refusal : (bytes : List ℕ) → OneRefusal bytes
one_refusal bytes f g p q d e = refusal-unique bytes d e

never : (bytes : List ℕ) {first : Bool} {place p : ℕ} {ts : List Token} {f : Flaw} → CutFrom bytes first place ts → RefusedFrom bytes place f p → ⊥
never bytes (cut_end h) (refused_here k) = cc
never bytes (cut_end h) (refused_behind_gap k e) = cc
never bytes (cut_end h) (refused_behind_token k e) = cc
never bytes (cut_gap h d) (refused_here k) = apart_gap _ _ _ _ k h
never bytes (cut_gap {place = place} {n = m} h d) (refused_behind_gap {n = n} {at = q} {flaw = g} k e) =
    let same = same_gap (front (drop place bytes)) m n h k in
    never bytes d (subst (λ (x : ℕ). RefusedFrom bytes (place + x) g q) (sym same) e)
never bytes (cut_gap h d) (refused_behind_token k e) = apart_both _ _ _ _ h k
never bytes (cut_token h d) (refused_here k) = apart_token _ _ _ _ _ k h
never bytes (cut_token h d) (refused_behind_gap k e) = apart_both _ _ _ _ k h
never bytes (cut_token {place = place} {n = m} {kind = a} h d) (refused_behind_token {n = n} {at = q} {kind = b} {flaw = g} k e) =
    let same = same_token (front (drop place bytes)) a b m n h k in
    never bytes d (subst (λ (x : ℕ). RefusedFrom bytes (place + x) g q) (sym same.1) e)

pub never_both : (bytes : List ℕ) → NeverBoth bytes
never_both bytes ts f p d e = never bytes d e

-- each text is cut or refused from each place on
abbrev Decided : List ℕ → Bool → ℕ → Type 0
Decided bytes first place = ((tokens : List Token) × CutFrom bytes first place tokens) ⊎ ((flaw : Flaw) × (at : ℕ) × RefusedFrom bytes place flaw at)

behind_gap : (bytes : List ℕ) (first : Bool) (place n : ℕ) → front (drop place bytes) ≡ gap n →
    Decided bytes (first || nat_lt 0 (line_ends n (drop place bytes))) (place + n) → Decided bytes first place
behind_gap bytes first place n h (inl d) = inl (d.0, cut_gap h d.1)
behind_gap bytes first place n h (inr e) = inr (e.0, e.1, refused_behind_gap h e.2)

behind_token : (bytes : List ℕ) (first : Bool) (place n : ℕ) (kind : Kind) → front (drop place bytes) ≡ token kind n →
    Decided bytes false (place + n) → Decided bytes first place
behind_token bytes first place n kind h (inl d) = inl (record { kind = kind; sort = kind_sort kind; from = place; to = place + n; line = line_of bytes place; new_line = first; sorted = refl } ∷ d.0, cut_token h d.1)
behind_token bytes first place n kind h (inr e) = inr (e.0, e.1, refused_behind_token h e.2)

by_front : (k : ℕ) (bytes : List ℕ) (first : Bool) (place : ℕ) (p : Piece) → front (drop place bytes) ≡ p → PieceFits (drop place bytes) p →
    length bytes < place + suc k → ((first : Bool) (next : ℕ) → length bytes < next + k → Decided bytes first next) → Decided bytes first place
by_front k bytes first place nothing h s l f = inl ([], cut_end h)
by_front k bytes first place (gap n) h s l f = behind_gap bytes first place n h (f (first || nat_lt 0 (line_ends n (drop place bytes))) (place + n) (omega (arith, s.some)))
by_front k bytes first place (token kind n) h s l f = behind_token bytes first place n kind h (f false (place + n) (omega (arith, s.some)))
by_front k bytes first place (refused flaw n) h s l f = inr (flaw, place + n, refused_here h)

decided : (k : ℕ) (bytes : List ℕ) (first : Bool) (place : ℕ) → length bytes < place + k → Decided bytes first place
decided zero bytes first place l = past (drop place bytes) refl
  where
    past : (xs : List ℕ) → drop place bytes ≡ xs → Decided bytes first place
    past [] h = inl ([], cut_end (rw h refl))
    past (x ∷ xs) h = let e = ap (λ (ys : List ℕ). length ys) h in absurd (omega (arith, e, length-drop place bytes))
decided (suc k) bytes first place l =
    by_front k bytes first place (front (drop place bytes)) refl (front-fits (drop place bytes)) l (λ f next m. decided k bytes f next m)

pub cut_or_refused : (bytes : List ℕ) → CutOrRefused bytes
cut_or_refused bytes = decided (suc (length bytes)) bytes true 0 (omega arith)

-- tokens of what is left make, after those of before, tokens of the whole; and its refusal is the refusal of the whole
pub record SoFar (bytes : List ℕ) (first : Bool) (place : ℕ) (before : List Token) : Type 0 where
  pub cuts : (ts : List Token) → CutFrom bytes first place ts → Cut bytes (before ++ ts)
  pub refuses : (f : Flaw) (at : ℕ) → RefusedFrom bytes place f at → Refused bytes f at

pub so_far_start : (bytes : List ℕ) → SoFar bytes true 0 []
so_far_start bytes = record { cuts = λ ts d. d; refuses = λ f at d. d }

pub so_far_gap : (bytes : List ℕ) (first next : Bool) (place n : ℕ) (before : List Token) → SoFar bytes first place before → front (drop place bytes) ≡ gap n →
    next ≡ (first || nat_lt 0 (line_ends n (drop place bytes))) → SoFar bytes next (place + n) before
so_far_gap bytes first next place n before s h e = rw e (record { cuts = λ ts d. s.cuts ts (cut_gap h d); refuses = λ f at d. s.refuses f at (refused_behind_gap h d) })

-- the sort of a token is that of its kind, and it is kept in one way
pub one_sort : (kind : Kind) (sort : Sort) (from to line : ℕ) (new_line : Bool) (s : sort ≡ kind_sort kind) → Path Token
    (record { kind = kind; sort = sort; from = from; to = to; line = line; new_line = new_line; sorted = s })
    (record { kind = kind; sort = kind_sort kind; from = from; to = to; line = line; new_line = new_line; sorted = refl })
one_sort kind sort from to line new_line s =
    path_j' (λ (x : Sort) (p : x ≡ kind_sort kind). Path Token
    (record { kind = kind; sort = x; from = from; to = to; line = line; new_line = new_line; sorted = p })
    (record { kind = kind; sort = kind_sort kind; from = from; to = to; line = line; new_line = new_line; sorted = refl })) refl s

so_far_made : (bytes : List ℕ) (first : Bool) (place n : ℕ) (kind : Kind) (before after : List Token) (t : Token) → SoFar bytes first place before →
    front (drop place bytes) ≡ token kind n → after ≡ before ++ t ∷ [] →
    t ≡ record { kind = kind; sort = kind_sort kind; from = place; to = place + n; line = line_of bytes place; new_line = first; sorted = refl } → SoFar bytes false (place + n) after
so_far_made bytes first place n kind before after t s h a e = record {
  cuts = λ ts d. rw (a, append_assoc) (rw e (s.cuts _ (cut_token h d)));
  refuses = λ f at d. s.refuses f at (refused_behind_token h d);
}

pub so_far_token : (bytes : List ℕ) (first : Bool) (place n line : ℕ) (kind : Kind) (sort : Sort) (before after : List Token) (is : sort ≡ kind_sort kind) → SoFar bytes first place before →
    front (drop place bytes) ≡ token kind n → line ≡ line_of bytes place →
    after ≡ before ++ record { kind = kind; sort = sort; from = place; to = place + n; line = line; new_line = first; sorted = is } ∷ [] → SoFar bytes false (place + n) after
so_far_token bytes first place n line kind sort before after is s h l a =
    so_far_made bytes first place n kind before after _ s h a (one_sort kind sort place (place + n) line first is ∙
    ap (λ (m : ℕ). record { kind = kind; sort = kind_sort kind; from = place; to = place + n; line = m; new_line = first; sorted = refl }) l)

pub so_far_end : (bytes : List ℕ) (first : Bool) (place : ℕ) (before : List Token) → SoFar bytes first place before → length bytes ≤ place → Cut bytes before
so_far_end bytes first place before s h = past (drop place bytes) refl
  where
    past : (xs : List ℕ) → drop place bytes ≡ xs → Cut bytes before
    past [] k = let d = s.cuts [] (cut_end (rw k refl)) in rw append-nil at d
    past (x ∷ xs) k = let e = ap (λ (ys : List ℕ). length ys) k in absurd (omega (arith, e, length-drop place bytes))

pub so_far_refused : (bytes : List ℕ) (first : Bool) (place n : ℕ) (before : List Token) (f : Flaw) → SoFar bytes first place before →
    front (drop place bytes) ≡ refused f n → Refused bytes f (place + n)
so_far_refused bytes first place n before f s h = s.refuses f (place + n) (refused_here h)
