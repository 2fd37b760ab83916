-- The place of a selection among records.
use Rattle.std.proofs.Common.{◌≡◌, ◌∙◌, ℕ, zero, suc, ◌+◌, ◌<◌, ◌≤◌, List, [], ◌∷◌, ◌++◌, length, take, drop, get_or, refl, ap, sym, subst, Some, None}
use Rattle.std.proofs.lemmas.List.{drop_all}
use Rattle.std.proofs.lemmas.Option.{slice_get_read}
use Rattle.js_data.specs.Event.{PlainEvent}
use Rattle.js_data.proofs.Shared.{drop_is}
use Rattle.bp_log.specs.declared.record.Record.{Record}
use Rattle.bp_log.specs.declared.record.Record.TheVariants.{In, Bad, Eof, Sel, End}
use Rattle.bp_log.specs.declared.verdict.Verdict.{Verdict}
use Rattle.bp_explain.specs.Explained.{before_end}
use Rattle.bp_explain.specs.Whys.{before_selection}
use Rattle.bp_answers.specs.inner.Reasons.{IsPlaceOf}
use Rattle.bp_answers.proofs.Walks.{IsNoEnd, end_on, taken_more}

-- ---- looked for, one record after the other

-- before the place no selection has this number, and so many stand before it from there on
abbrev pub IsSought : ℕ → List Record → ℕ → ℕ → Type 0
IsSought n records before i = before_selection n [] records ≡ before_selection before (take i records) (drop i records)

module _ (n m i : ℕ) (rs : List Record) (r : Record) (w : IsSought n rs m i) (less : i < length rs) (is : r ≡ get_or rs i r) where
  -- at the record that stands there
  at_next : (x : Record) → r ≡ x → before_selection n [] rs ≡ before_selection m (take i rs) (x ∷ drop (i + 1) rs)
  at_next x e = w ∙ ap (before_selection m (take i rs)) (drop_is rs i r less is) ∙ ap (λ (y : Record). before_selection m (take i rs) (y ∷ drop (i + 1) rs)) e

  past : (x : Record) (later : ℕ) → r ≡ x → before_selection m (take i rs) (x ∷ drop (i + 1) rs) ≡ before_selection later (take i rs ++ x ∷ []) (drop (i + 1) rs) → IsSought n rs later (i + 1)
  past x later e h =
      at_next x e
      ∙ h
      ∙ ap (λ (y : Record). before_selection later (take i rs ++ y ∷ []) (drop (i + 1) rs)) (sym e)
      ∙ ap (λ (xs : List Record). before_selection later xs (drop (i + 1) rs)) (sym (taken_more rs i r less is))

  pub past_input : (j : ℕ) (e : PlainEvent) → r ≡ In j e → IsSought n rs m (i + 1)
  past_input j e h = past (In j e) m h refl

  pub past_bad : (j k : ℕ) → r ≡ Bad j k → IsSought n rs m (i + 1)
  past_bad j k h = past (Bad j k) m h refl

  pub past_eof : (j : ℕ) → r ≡ Eof j → IsSought n rs m (i + 1)
  past_eof j h = past (Eof j) m h refl

  pub past_selection : (e : PlainEvent) (later : ℕ) → r ≡ Sel e → m ≡ suc later → IsSought n rs later (i + 1)
  past_selection e later h k = past (Sel e) later h (ap (λ (b : ℕ). before_selection b (take i rs) (Sel e ∷ drop (i + 1) rs)) k)

  -- it is the one
  pub place_is : (e : PlainEvent) → r ≡ Sel e → m ≡ 0 → IsPlaceOf n rs (Some i)
  place_is e h z = (
    e,
    slice_get_read rs (length rs) i (Sel e) refl less (subst (λ (x : Record). x ≡ get_or rs i x) h is),
    at_next (Sel e) h ∙ ap (λ (b : ℕ). before_selection b (take i rs) (Sel e ∷ drop (i + 1) rs)) z,
  )

  -- nothing is looked for after an end
  pub none_at_end : (v : Verdict) → r ≡ End v → IsPlaceOf n rs None
  none_at_end v h = at_next (End v) h

pub none_behind : (n m i : ℕ) (rs : List Record) → IsSought n rs m i → length rs ≤ i → IsPlaceOf n rs None
none_behind n m i rs w last = w ∙ ap (before_selection m (take i rs)) (drop_all i rs last)

-- ---- what stands before it

abbrev HasNoEnd : List Record → Type 0
HasNoEnd rs = before_end rs ≡ rs

no_end_on : (b : List Record) (r : Record) → HasNoEnd b → IsNoEnd r → HasNoEnd (b ++ r ∷ [])
no_end_on [] r h k = end_on r [] k
no_end_on (In j e ∷ xs) r h k = ap (λ (ys : List Record). In j e ∷ ys) (no_end_on xs r (let m : before_end xs ≡ xs = cc in m) k)
no_end_on (Bad j n ∷ xs) r h k = ap (λ (ys : List Record). Bad j n ∷ ys) (no_end_on xs r (let m : before_end xs ≡ xs = cc in m) k)
no_end_on (Eof j ∷ xs) r h k = ap (λ (ys : List Record). Eof j ∷ ys) (no_end_on xs r (let m : before_end xs ≡ xs = cc in m) k)
no_end_on (Sel e ∷ xs) r h k = ap (λ (ys : List Record). Sel e ∷ ys) (no_end_on xs r (let m : before_end xs ≡ xs = cc in m) k)
no_end_on (End v ∷ xs) r h k = absurd (cc)

-- no end stands before a selection
no_end_before : (n : ℕ) (b rs found : List Record) (e : PlainEvent) → before_selection n b rs ≡ Some (found, e) → HasNoEnd b → HasNoEnd found
no_end_before n b [] found e h k = absurd (cc)
no_end_before n b (End v ∷ rs) found e h k = absurd (cc)
no_end_before zero b (Sel f ∷ rs) found e h k =
    let m : (b, f) ≡ (found, e) = cc in
    subst HasNoEnd (ap (λ (p : List Record × PlainEvent). p.0) m) k
no_end_before (suc n) b (Sel f ∷ rs) found e h k = no_end_before n (b ++ Sel f ∷ []) rs found e h (no_end_on b (Sel f) k refl)
no_end_before n b (In j f ∷ rs) found e h k = no_end_before n (b ++ In j f ∷ []) rs found e h (no_end_on b (In j f) k refl)
no_end_before n b (Bad j m ∷ rs) found e h k = no_end_before n (b ++ Bad j m ∷ []) rs found e h (no_end_on b (Bad j m) k refl)
no_end_before n b (Eof j ∷ rs) found e h k = no_end_before n (b ++ Eof j ∷ []) rs found e h (no_end_on b (Eof j) k refl)

pub no_end_at : (n i : ℕ) (rs : List Record) (e : PlainEvent) → before_selection n [] rs ≡ Some (take i rs, e) → before_end (take i rs) ≡ take i rs
no_end_at n i rs e h = no_end_before n [] rs (take i rs) e h refl
