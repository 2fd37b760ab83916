-- Texts of the elements of a list, written one after the other.
use Rattle.std.proofs.Common.{◌≡◌, ◌∙◌, ℕ, ◌+◌, ◌<◌, List, ◌++◌, append_assoc, length, drop, get_or, ap, sym}
use Rattle.std.specs.Prelude.{flat_map}
use Rattle.js_data.proofs.Shared.{drop_is}

pub flat_step : {A : Type 0} (f : A → List ℕ) (all : List A) (i : ℕ) (x : A) (old new whole : List ℕ) → i < length all → x ≡ get_or all i x → new ≡ old ++ f x → old ++ flat_map f (drop i all) ≡ whole → new ++ flat_map f (drop (i + 1) all) ≡ whole
flat_step f all i x old new whole h k m w =
    ap (λ (t : List ℕ). t ++ flat_map f (drop (i + 1) all)) m
    ∙ append_assoc old (f x) (flat_map f (drop (i + 1) all))
    ∙ ap (λ (xs : List _). old ++ flat_map f xs) (sym (drop_is all i x h k))
    ∙ w
