-- Maps from offsets of the text to what the names there stand for.
use Rattle.std.proofs.Common.{◌≡◌, ℕ, ◌+◌, ◌<◌, List, [], ◌∷◌, ◌++◌, ◌∙◌, ap, sym, map, length, take, get_or, Option, None, nat_eq, if◌then◌else◌}
use Rattle.std.proofs.lemmas.List.{take_more, map-append}
use Rattle.indexmap.specs.IndexMap.{get}
use Rattle.js_names.specs.declared.mention.Mention.{Mention as HeldMention}
use Rattle.js_names.specs.Mentions.{Mention, or_else}
use Rattle.js_names.specs.Views.{mention_of}
use Rattle.js_names.proofs.Taking.{or_else_assoc, or_else_none}
use Rattle.js_resolver.specs.inner.Tables.{Known, Notes}
use Rattle.js_resolver.specs.Variables.{known_here, known_in}

known_in-last : {A : Type 0} (key : Mention → ℕ) (value : Mention → Option A) (q : ℕ) (xs : List Mention) (p : Mention) → known_in key value q (xs ++ p ∷ []) ≡ or_else (known_in key value q xs) (known_here key value q p)
known_in-last key value q [] p = or_else_none (known_here key value q p)
known_in-last key value q (x ∷ xs) p =
    ap (or_else (known_here key value q x)) (known_in-last key value q xs p) ∙ sym (or_else_assoc (known_here key value q x) (known_in key value q xs) (known_here key value q p))

-- one more mention
pub known_more : {A : Type 0} (key : Mention → ℕ) (value : Mention → Option A) (xs : List HeldMention) (i : ℕ) (x : HeldMention) (a b : Known A) (v : Option A) → i < length xs → x ≡ get_or xs i x → v ≡ value (mention_of x)
    → ((q : ℕ) → get nat_eq a q ≡ known_in key value q (map mention_of (take i xs))) → Notes a b (key (mention_of x)) v → (q : ℕ) → get nat_eq b q ≡ known_in key value q (map mention_of (take (i + 1) xs))
known_more key value xs i x a b v h e f inv n q =
    n q ∙ (ap (λ z. or_else z (if nat_eq (key (mention_of x)) q then v else None)) (inv q)
    ∙ (ap (λ z. or_else (known_in key value q (map mention_of (take i xs))) (if nat_eq (key (mention_of x)) q then z else None)) f
    ∙ (sym (known_in-last key value q (map mention_of (take i xs)) (mention_of x))
    ∙ (ap (λ z. known_in key value q (map mention_of (take i xs) ++ mention_of z ∷ [])) e
    ∙ sym (ap (known_in key value q) (ap (map mention_of) (take_more xs i x h) ∙ map-append mention_of (take i xs) (get_or xs i x ∷ [])))))))

-- one more slot
pub slots_more : (f : ℕ → ℕ) (xs : List ℕ) (i : ℕ) (a b : List ℕ) → i < length xs → a ≡ map f (take i xs) → b ≡ a ++ f (get_or xs i 0) ∷ [] → b ≡ map f (take (i + 1) xs)
slots_more f xs i a b h inv p =
    p ∙ (ap (λ z. z ++ f (get_or xs i 0) ∷ []) inv ∙ sym (ap (map f) (take_more xs i 0 h) ∙ map-append f (take i xs) (get_or xs i 0 ∷ [])))
