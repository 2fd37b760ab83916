-- Lines for the kinds, one after the other.
use Rattle.std.proofs.Common.{◌≡◌, ◌∙◌, ℕ, suc, ◌+◌, ◌<◌, List, ◌∷◌, ◌++◌, length, drop, refl, ap, arith}
use Rattle.std.specs.Prelude.{flat_map, slice_index_or}
use Rattle.std.proofs.Math.Seq.{drop-cons}
use Rattle.bp_explain.specs.Seeds.{Counted, counted_text}

told_cons : (x : Counted) (xs : List Counted) → flat_map counted_text (x ∷ xs) ≡ counted_text x ++ flat_map counted_text xs
told_cons x xs = refl

-- the line of this place, and those of the places after it
pub told_on : (xs : List Counted) (i : ℕ) (x : Counted) → i < length xs → slice_index_or xs i x ≡ x →
    flat_map counted_text (drop i xs) ≡ counted_text x ++ flat_map counted_text (drop (i + 1) xs)
told_on xs i x h at =
    let next : suc i ≡ i + 1 = omega arith in
    ap (flat_map counted_text) (drop-cons xs i x h ∙ ap (λ (y : Counted). y ∷ drop (suc i) xs) at ∙ ap (λ (n : ℕ). x ∷ drop n xs) next)
    ∙ told_cons x (drop (i + 1) xs)
