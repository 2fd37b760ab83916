-- Facts of the first elements of a list that is changed one after the other.
use Rattle.std.proofs.Common.{◌≡◌, ◌≢◌, ◌⊎◌, inl, inr, ◌<◌, ◌≤◌, ℕ, ◌+◌, List, ◌++◌, length, take, drop, get_or, set, length-set, get_or-set_same, get_or-set_other, refl, ap, sym, subst, ◌∙◌, arith, slice_index_or}
use Rattle.std.proofs.lemmas.Bool.{cases_eq}
use Rattle.std.proofs.lemmas.List.{get_or_default}
use Rattle.std.proofs.Math.Seq.{take-append_seam}

module _ {X : Type 0} (R : ℕ → X → X → Type 0) where
  -- R holds of each
  abbrev pub Each : List X → List X → Type 0
  Each old new = (k : ℕ) (d e : X) → k < length old → R k (slice_index_or old k d) (slice_index_or new k e)

  -- R holds of the first this many, and the rest is as before
  pub record EachTo (i : ℕ) (old new : List X) : Type 0 where
    pub many : length new ≡ length old
    pub each : (k : ℕ) (d e : X) → k < i → k < length old → R k (slice_index_or old k d) (slice_index_or new k e)
    pub rest : (k : ℕ) (e : X) → i ≤ k → slice_index_or new k e ≡ slice_index_or old k e

  pub each_none : (xs : List X) → EachTo 0 xs xs
  each_none xs = record { many = refl; each = λ k d e l. absurd (omega (arith, l)); rest = λ k e l. refl }

  pub each_all : (i : ℕ) (old new : List X) → length old ≤ i → EachTo i old new → Each old new
  each_all i old new h t k d e less = t.each k d e (omega (arith, h, less)) less

  at : (i : ℕ) (old items : List X) (new : X) → EachTo i old items → i < length items → ((d : X) → R i (slice_index_or old i d) new)
      → (k : ℕ) (d e : X) → k < i + 1 → k < length old → (k ≡ i) ⊎ (k ≢ i) → R k (slice_index_or old k d) (slice_index_or (set items i new) k e)
  at i old items new t low h k d e lt within (inl q) =
      let here : slice_index_or (set items i new) k e ≡ new = ap (λ (n : ℕ). get_or (set items i new) n e) q ∙ get_or-set_same items i new e low in
      subst (λ (y : X). R k (slice_index_or old k d) y) (sym here) (subst (λ (n : ℕ). R n (slice_index_or old n d) new) (sym q) (h d))
  at i old items new t low h k d e lt within (inr q) =
      let there : slice_index_or (set items i new) k e ≡ slice_index_or items k e = get_or-set_other items i k new e q in
      subst (λ (y : X). R k (slice_index_or old k d) y) (sym there) (t.each k d e (omega (arith, lt, q)) within)

  -- and of the next
  pub each_next : (i : ℕ) (old items : List X) (a new : X) → i < length old → EachTo i old items → R i (slice_index_or items i a) new → EachTo (i + 1) old (set items i new)
  each_next i old items a new lt t x =
      let many = t.many in
      let low : i < length items = omega (arith, lt, many) in
      record {
        many = length-set items i new ∙ many;
        each = λ k d e b within. at i old items new t low (λ (g : X). subst (λ (y : X). R i y new) (get_or_default items i a g low ∙ t.rest i g (omega arith)) x) k d e b within (cases_eq k i);
        rest = λ k e b. get_or-set_other items i k new e (λ q. omega (arith, b, q)) ∙ t.rest k e (omega (arith, b));
      }

-- another fact of each
pub each_map : {X : Type 0} (R S : ℕ → X → X → Type 0) → ((k : ℕ) (x y : X) → R k x y → S k x y) → (i : ℕ) (old new : List X) → EachTo R i old new → EachTo S i old new
each_map {X} R S f i old new t = record { many = t.many; each = λ k d e b l. f k (slice_index_or old k d) (slice_index_or new k e) (t.each k d e b l); rest = t.rest }

-- what a list is once it was written back, as long as it was
pub written_back : {X : Type 0} (n : ℕ) (old new : List X) → n ≡ length old → length new ≡ length old → take n (new ++ drop (length new) old) ≡ new
written_back n old new e h = ap (λ (m : ℕ). take m (new ++ drop (length new) old)) (e ∙ sym h) ∙ take-append_seam new (drop (length new) old)
