-- Words apart from the last.
use Rattle.std.proofs.Common.{◌≡◌, ◌∙◌, ℕ, List, [], ◌∷◌, ◌++◌, length, map, Some, None, refl, ap}
use Rattle.std.specs.Prelude.{option_map}
use Rattle.std.proofs.lemmas.List.{map-append}
use Rattle.bpx_cli.specs.StateAsked.{last_apart}

apart_snoc : (words : List (List ℕ)) (last : List ℕ) → last_apart (words ++ last ∷ []) ≡ Some (words, last)
apart_snoc [] last = refl
apart_snoc (word ∷ []) last = refl
apart_snoc (word ∷ next ∷ words) last = ap (option_map (λ p. (word ∷ p.0, p.1))) (apart_snoc (next ∷ words) last)

pub apart_words : {X : Type 0} (f : X → List ℕ) (words front : List X) (last : X) → words ≡ front ++ last ∷ [] → last_apart (map f words) ≡ Some (map f front, f last)
apart_words f words front last e = ap (λ ws. last_apart (map f ws)) e ∙ ap last_apart (map-append f front (last ∷ [])) ∙ apart_snoc (map f front) (f last)

pub apart_none : {X : Type 0} (f : X → List ℕ) (words : List X) → length words ≡ 0 → last_apart (map f words) ≡ None
apart_none f [] e = refl
apart_none f (x ∷ xs) e = absurd (cc)
