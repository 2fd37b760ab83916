-- Going over bytes.
use Rattle.std.proofs.Common.{◌≡◌, ◌≢◌, ℕ, suc, ◌+◌, ◌<◌, ◌≤◌, Bool, true, false, List, [], ◌∷◌, ◌++◌, length, get_or, take, drop, Some, None, refl, sym, ap, ◌∙◌, inl, inr, arith, append-nil, option_and_then, length-drop, length-append, ap₂}
use Rattle.std.specs.Prelude.{◌==◌, ◌&&◌, not}
use Rattle.std.proofs.Math.Seq.{drop-cons, take-suc, take-append_seam}
use Rattle.std.proofs.lemmas.Bool.Decides.{eqb_tells}
use Rattle.std.proofs.lemmas.Bool.{and_parts, not-true, ne_eqb, eq-eqb, eqb-true}
use Rattle.bp_reading.proofs.Again.{quote_parts}
use Rattle.std.proofs.lemmas.List.{drop_all}
use Rattle.std.proofs.lemmas.Option.{same_Some, none-some}
use Rattle.bp_reading.specs.Words.{behind, around, onto_front, to_quote, quoted_front}
use Rattle.bp_reading.proofs.Quotes.{onto_all_is, onto_all-append, onto_all}

onto_all_none : (bs : List ℕ) → onto_all bs None ≡ None
onto_all_none [] = refl
onto_all_none (b ∷ bs) = ap (onto_front b) (onto_all_none bs)

-- ---- around

around_found : (c i : ℕ) (bytes : List ℕ) → i < length bytes → get_or bytes i 0 ≡ c → around c (drop i bytes) ≡ Some ([], drop (suc i) bytes)
around_found c i bytes h e = rw (drop-cons bytes i 0 h, eq-eqb _ _ e) refl

around_passed : (c i : ℕ) (bytes : List ℕ) → i < length bytes → get_or bytes i 0 ≢ c → around c (drop i bytes) ≡ onto_front (get_or bytes i 0) (around c (drop (suc i) bytes))
around_passed c i bytes h e = rw (drop-cons bytes i 0 h, ne_eqb _ _ e) refl

pub around_here : (c i : ℕ) (bytes : List ℕ) → around c bytes ≡ onto_all (take i bytes) (around c (drop i bytes)) → i < length bytes → get_or bytes i 0 ≡ c → around c bytes ≡ Some (take i bytes, drop (suc i) bytes)
around_here c i bytes inv h e =
    inv ∙ ap (onto_all (take i bytes)) (around_found c i bytes h e)
    ∙ onto_all_is (take i bytes) [] (drop (suc i) bytes)
    ∙ ap (λ (t : List ℕ). Some (t, drop (suc i) bytes)) (append-nil (take i bytes))

pub around_more : (c i : ℕ) (bytes : List ℕ) → around c bytes ≡ onto_all (take i bytes) (around c (drop i bytes)) → i < length bytes → get_or bytes i 0 ≢ c → around c bytes ≡ onto_all (take (suc i) bytes) (around c (drop (suc i) bytes))
around_more c i bytes inv h e =
    inv ∙ ap (onto_all (take i bytes)) (around_passed c i bytes h e)
    ∙ sym (onto_all-append (take i bytes) (get_or bytes i 0 ∷ []) _)
    ∙ ap (λ t. onto_all t (around c (drop (suc i) bytes))) (sym (take-suc bytes i 0 h))

-- ---- after

pub behind_differs : (i : ℕ) (word bytes : List ℕ) → i < length word → i < length bytes → get_or bytes i 0 ≢ get_or word i 0 → behind (drop i word) (drop i bytes) ≡ None
behind_differs i word bytes h k e = rw (drop-cons bytes i 0 k, drop-cons word i 0 h, ne_eqb _ _ e) refl

behind_none : (word : List ℕ) → 0 < length word → behind word [] ≡ None
behind_none [] h = absurd (omega (arith, h))
behind_none (w ∷ word) h = refl

-- the bytes end within the word
pub behind_ends : (i : ℕ) (word bytes : List ℕ) → i < length word → length bytes ≤ i → behind (drop i word) (drop i bytes) ≡ None
behind_ends i word bytes h k = rw (drop_all i bytes k) (behind_none (drop i word) (omega (arith, length-drop {A = ℕ})))

pub around_nowhere : (c i : ℕ) (bytes : List ℕ) → around c bytes ≡ onto_all (take i bytes) (around c (drop i bytes)) → length bytes ≤ i → around c bytes ≡ None
around_nowhere c i bytes inv h = inv ∙ ap (onto_all (take i bytes)) (ap (around c) (drop_all i bytes h)) ∙ onto_all_none (take i bytes)

-- ---- the end of a quoted text

pub quote_ends : (i : ℕ) (bytes : List ℕ) → i < length bytes → get_or bytes i 0 ≡ 34 → to_quote false (drop i bytes) ≡ Some (34 ∷ [], drop (suc i) bytes)
quote_ends i bytes h e = rw (drop-cons bytes i 0 h, e) refl

pub quote_here : (i : ℕ) (bytes : List ℕ) → to_quote false bytes ≡ onto_all (take i bytes) (to_quote false (drop i bytes)) → i < length bytes → get_or bytes i 0 ≡ 34 → to_quote false bytes ≡ Some (take (suc i) bytes, drop (suc i) bytes)
quote_here i bytes inv h e =
    inv ∙ ap (onto_all (take i bytes)) (quote_ends i bytes h e)
    ∙ onto_all_is (take i bytes) (34 ∷ []) (drop (suc i) bytes)
    ∙ ap (λ (t : List ℕ). Some (t, drop (suc i) bytes)) (ap (λ b. take i bytes ++ b ∷ []) (sym e) ∙ sym (take-suc bytes i 0 h))

quote_passes : (escaped : Bool) (i : ℕ) (bytes : List ℕ) → i < length bytes → (not escaped && (get_or bytes i 0 == 34)) ≡ false
    → to_quote escaped (drop i bytes) ≡ onto_front (get_or bytes i 0) (to_quote (not escaped && (get_or bytes i 0 == 92)) (drop (suc i) bytes))
quote_passes escaped i bytes h e = rw (drop-cons bytes i 0 h, e) refl

pub quote_more : (escaped : Bool) (i : ℕ) (bytes : List ℕ) → to_quote false bytes ≡ onto_all (take i bytes) (to_quote escaped (drop i bytes)) → i < length bytes
    → (not escaped && (get_or bytes i 0 == 34)) ≡ false
    → to_quote false bytes ≡ onto_all (take (suc i) bytes) (to_quote (not escaped && (get_or bytes i 0 == 92)) (drop (suc i) bytes))
quote_more escaped i bytes inv h e =
    inv ∙ ap (onto_all (take i bytes)) (quote_passes escaped i bytes h e)
    ∙ sym (onto_all-append (take i bytes) (get_or bytes i 0 ∷ []) _)
    ∙ ap (λ t. onto_all t (to_quote (not escaped && (get_or bytes i 0 == 92)) (drop (suc i) bytes))) (sym (take-suc bytes i 0 h))

pub quote_nowhere : (escaped : Bool) (i : ℕ) (bytes : List ℕ) → to_quote false bytes ≡ onto_all (take i bytes) (to_quote escaped (drop i bytes)) → length bytes ≤ i → to_quote false bytes ≡ None
quote_nowhere escaped i bytes inv h = inv ∙ ap (onto_all (take i bytes)) (ap (to_quote escaped) (drop_all i bytes h)) ∙ onto_all_none (take i bytes)

behind_parts : (bytes rest : List ℕ) → behind (34 ∷ []) bytes ≡ Some rest → bytes ≡ 34 ∷ rest
behind_parts [] rest h = absurd (none-some _ h)
behind_parts (b ∷ bytes) rest h = elim (eqb_tells b 34) [
  | inl same ↦ ap₂ (λ (x : ℕ) (xs : List ℕ). x ∷ xs) same.1 (same_Some bytes rest (rw same.0 at h))
  | inr other ↦ absurd (none-some _ (rw other.0 at h))
]

pub record Opens (bytes front more : List ℕ) : Type 0 where
  pub front_is : take (length front + 1) bytes ≡ 34 ∷ front
  pub fits : length front + 1 ≤ length bytes

pub opens : (bytes rest front more : List ℕ) → behind (34 ∷ []) bytes ≡ Some rest → to_quote false rest ≡ Some (front, more) → Opens bytes front more
opens bytes rest front more h k =
    let e : bytes ≡ (34 ∷ front) ++ more = behind_parts bytes rest h ∙ ap (λ t. 34 ∷ t) (quote_parts rest false front more k) in
    let n : length front + 1 ≡ length (34 ∷ front) = omega arith in
    record {
      front_is = rw (e, n) (take-append_seam (34 ∷ front) more);
      fits = rw e (omega (arith, length-append (34 ∷ front) more));
    }

pub quote_marked : (escaped : Bool) (i : ℕ) (bytes : List ℕ) → to_quote false bytes ≡ onto_all (take i bytes) (to_quote escaped (drop i bytes)) → i < length bytes
    → (not escaped && (get_or bytes i 0 == 34)) ≡ true → to_quote false bytes ≡ Some (take (suc i) bytes, drop (suc i) bytes)
quote_marked escaped i bytes inv h e =
    let p = and_parts (not escaped) (get_or bytes i 0 == 34) e in
    quote_here i bytes (rw (not-true escaped p.0) at inv) h (eqb-true _ _ p.1)

pub opened : (bytes rest front more : List ℕ) → behind (34 ∷ []) bytes ≡ Some rest → to_quote false rest ≡ Some (front, more) → Some (take (length front + 1) bytes, more) ≡ quoted_front bytes
opened bytes rest front more h k =
    ap (λ (t : List ℕ). Some (t, more)) (opens bytes rest front more h k).front_is
    ∙ sym (ap (λ o. option_and_then (λ r. onto_front 34 (to_quote false r)) o) h ∙ ap (onto_front 34) k)
