-- The slots of a block, one declaration after the other.
use Rattle.std.proofs.Common.{◌≡◌, ℕ, ◌+◌, ◌<◌, ◌≤◌, List, [], ◌∷◌, ◌++◌, ◌∙◌, ap, sym, length, drop, get_or, append_assoc, append-nil}
use Rattle.std.proofs.lemmas.List.{drop_more, drop_all, map-append}
use Rattle.js_names.specs.Entries.{Entry}
use Rattle.js_names.specs.Mentions.{Mention}
use Rattle.js_resolver.specs.Variables.{slot_at}
use Rattle.js_resolver.specs.NodeForms.{fresh}

-- one more iteration of a loop: all : what is declared by a list, one : by its first element
pub fresh_more : {X : Type 0} (ps : List Mention) (one : X → List Entry) (all : List X → List Entry) (xs : List X) (i : ℕ) (d x : X) (a b w : List ℕ)
    → ((y : X) (ys : List X) → all (y ∷ ys) ≡ one y ++ all ys)
    → i < length xs → x ≡ get_or xs i d → a ++ fresh ps (all (drop i xs)) ≡ w → b ≡ a ++ fresh ps (one x) → b ++ fresh ps (all (drop (i + 1) xs)) ≡ w
fresh_more ps one all xs i d x a b w s h e inv k =
    let rest = drop (i + 1) xs in
    let first = get_or xs i d in
    ap (λ z. z ++ fresh ps (all rest)) k
    ∙ (append_assoc a (fresh ps (one x)) (fresh ps (all rest))
    ∙ (ap (λ z. a ++ (fresh ps (one z) ++ fresh ps (all rest))) e
    ∙ (ap (λ z. a ++ z) (sym (map-append (λ (y : Entry). slot_at ps y.declared.offset) (one first) (all rest)))
    ∙ (ap (λ z. a ++ fresh ps z) (sym (s first rest))
    ∙ (ap (λ z. a ++ fresh ps (all z)) (sym (drop_more xs i d h)) ∙ inv)))))

-- and after the last iteration
pub fresh_none : {X : Type 0} (ps : List Mention) (all : List X → List Entry) (xs : List X) (i : ℕ) (a w : List ℕ) → all [] ≡ [] → length xs ≤ i → a ++ fresh ps (all (drop i xs)) ≡ w → a ≡ w
fresh_none ps all xs i a w s h inv =
    sym (append-nil a) ∙ (ap (λ z. a ++ fresh ps z) (sym s) ∙ (ap (λ z. a ++ fresh ps (all z)) (sym (drop_all i xs h)) ∙ inv))
