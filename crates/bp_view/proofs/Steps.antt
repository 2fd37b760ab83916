-- Each kind of step keeps the rule of the summaries.
use Rattle.std.proofs.Common.{◌≡◌, ◌≢◌, ℕ, List, [], ◌∷◌, ◌++◌, true, set, refl, sym, ap, ◌∙◌, subst, ⊎_elim, append_assoc, append-nil, fold}
use mathlib.Core.List.{IsPrefix}
use mathlib.Core.Option.{some, some-ne-none}
use lib.ListN.{get_elem?}
use Rattle.left_right.specs.Register.{Admits, TurnsAt}
use Rattle.atomic_table.proofs.Lists.{at_set, at_snoc}
use Rattle.bp_view.specs.declared.summary.Summary.{Summary}
use Rattle.bp_view.specs.Growing.{grows}
use Rattle.bp_view.specs.inner.Published.{Published, IsLook}

abbrev AllBegin : List Summary → List (List Summary) → Type 0
AllBegin list views = (seat : ℕ) (v : List Summary) → get_elem? views seat ≡ some v → IsPrefix v list

all_snoc : (list : List Summary) (views : List (List Summary)) (w : List Summary) → IsPrefix w list → AllBegin list views → AllBegin list (views ++ w ∷ [])
all_snoc list views w mine all j u e = ⊎_elim (λ t. all j u t) (λ (t : w ≡ u). subst (λ y. IsPrefix y list) t mine) (at_snoc views w u j e)

all_set : (list : List Summary) (views : List (List Summary)) (seat : ℕ) (w : List Summary) → IsPrefix w list → AllBegin list views → AllBegin list (set views seat w)
all_set list views seat w mine all j u e =
    ⊎_elim (λ (t : (j ≡ seat) × (w ≡ u)). subst (λ y. IsPrefix y list) t.1 mine)
    (λ (t : (j ≢ seat) × (get_elem? views j ≡ some u)). all j u t.1) (at_set views seat j w u e)

pub begins : (first : Summary) → Published (first ∷ []) ([] ∷ [])
begins first = record {
  good = refl;
  begins = all_snoc (first ∷ []) [] [] (first ∷ [], refl) (λ j u e. absurd (some-ne-none u (sym e)));
}

pub admits : Admits Published []
admits list views h = record {
  good = h.good;
  begins = all_snoc list views [] (list, refl) h.begins;
}

pub looks : (seat : ℕ) (v list : List Summary) → TurnsAt Published seat v list list (λ v x y w. IsLook v y w)
looks seat v list views h at = (
  list,
  record { good = h.good; begins = all_set list views seat list ([], append-nil list) h.begins },
  record { all = refl; begins = h.begins seat v at; good = h.good },
)

longer : (xs list : List Summary) (s : Summary) → IsPrefix xs list → IsPrefix xs (list ++ s ∷ [])
longer xs list s (rest, e) = (rest ++ s ∷ [], sym (append_assoc xs rest (s ∷ [])) ∙ ap (λ l. l ++ s ∷ []) e)

pub adds : (seat : ℕ) (v list next : List Summary) (s : Summary) → next ≡ list ++ s ∷ [] → grows (list ++ s ∷ []) ≡ true
    → TurnsAt Published seat v list next (λ v x y w. w ≡ v)
adds seat v list next s is good views h at = (
  v,
  record {
    good = ap grows is ∙ good;
    begins = subst (λ l. AllBegin l (set views seat v)) (sym is)
        (all_set (list ++ s ∷ []) views seat v (longer v list s (h.begins seat v at)) (λ j u e. longer u list s (h.begins j u e)));
  },
  refl,
)

-- what is published, where one summary waits
pub adds_one : (seat : ℕ) (v list next : List Summary) (waits more : List Summary) (s : Summary) → waits ≡ [] → more ≡ waits ++ s ∷ []
    → grows (list ++ s ∷ []) ≡ true → next ≡ fold (λ xs x. xs ++ x ∷ []) list more → TurnsAt Published seat v list next (λ v x y w. w ≡ v)
adds_one seat v list next waits more s none is good e =
    let one : more ≡ s ∷ [] = is ∙ ap (λ l. l ++ s ∷ []) none in
    adds seat v list next s (e ∙ ap (fold (λ xs x. xs ++ x ∷ []) list) one) good
