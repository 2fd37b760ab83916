-- Maps of sets that take in what functions hold.
use Rattle.std.proofs.Common.{◌≡◌, ℕ, ◌+◌, ◌<◌, List, [], ◌∷◌, ◌++◌, ◌∙◌, ap, refl, sym, subst, map, fold, length, take, get_or, Bool, true, false, ◌||◌, if◌then◌else◌, nat_eq, zero, suc, arith, Some}
use Rattle.std.specs.List.{flat_map}
use Rattle.std.specs.Map.{lookup}
use Rattle.std.proofs.lemmas.Bool.{eq-eqb, or_left, or_right}
use Rattle.std.proofs.lemmas.List.Folds.{flat_map-map, list_any-append}
use Rattle.std.proofs.lemmas.List.Sums.{fold-append}
use Rattle.js_data.proofs.Shared.{flat_map_take, kept-append}
use Rattle.js_names.specs.declared.mention.Mention.{Mention as HeldMention}
use Rattle.js_names.specs.declared.mention.Declared.{Declared}
use Rattle.js_names.specs.Mentions.{Mention}
use Rattle.js_names.specs.Slots.{Holding, hold, held_by, holds_all, inside, is_among, joins, copies, captures_of, holdings, slots_of, captures, captures_in, parameter_in, variable_in, var_in, vars_of}
use Rattle.js_names.specs.Views.{mention_of}
use Rattle.js_names.specs.Held.{Sets, keys_of, held_in, Holds}

-- what a function holds by two lists
pub held-append : (q : ℕ) (xs ys : List Holding) → held_by q (xs ++ ys) ≡ held_by q xs ++ held_by q ys
held-append q xs ys = kept-append (held_by q) (λ x. nat_eq x.function q) (λ x. x.variable) refl (λ _ _. refl) xs ys

-- a map that took in two lists in turn took in both
pub holds_both : (a b c : Sets) (xs ys : List Holding) → Holds a b xs → Holds b c ys → Holds a c (xs ++ ys)
holds_both a b c xs ys h k = λ q.
    k q ∙ (ap (λ z. fold joins z (held_by q ys)) (h q) ∙ (sym (fold-append joins (held_in a q) (held_by q xs) (held_by q ys)) ∙ ap (fold joins (held_in a q)) (sym (held-append q xs ys))))

-- one more iteration of a loop
pub holds_more : {X : Type 0} (f : X → List Holding) (xs : List X) (i : ℕ) (d x : X) (a b c : Sets) → i < length xs → x ≡ get_or xs i d
    → Holds a b (flat_map f (take i xs)) → Holds b c (f x) → Holds a c (flat_map f (take (i + 1) xs))
holds_more f xs i d x a b c h e s t =
    subst (Holds a c) (sym (flat_map_take f xs i d x h e)) (holds_both a b c _ _ s t)

-- a list that has each of some variables stays as it is when they join it once more

abbrev Has : List ℕ → List ℕ → Type 0
Has h [] = Unit {0}
Has h (x ∷ xs) = (is_among x h ≡ true) × Has h xs

has_same : (h xs : List ℕ) → Has h xs → fold joins h xs ≡ h
has_same h [] k = refl
has_same h (x ∷ xs) k = ap (λ b. fold joins (if b then h else h ++ x ∷ []) xs) k.0 ∙ has_same h xs k.1

among_end : (x y : ℕ) (h : List ℕ) → is_among x h ≡ true → is_among x (h ++ y ∷ []) ≡ true
among_end x y h k = list_any-append (nat_eq x) h (y ∷ []) ∙ or_left _ _ k

among_joins : (x y : ℕ) (h : List ℕ) → is_among x h ≡ true → is_among x (joins h y) ≡ true
among_joins x y h k = elim (is_among y h) as (λ b. is_among x (if b then h else h ++ y ∷ []) ≡ true) [ true ↦ k | false ↦ among_end x y h k ]

at_end : (x : ℕ) (h : List ℕ) → is_among x (h ++ x ∷ []) ≡ true
at_end x h = list_any-append (nat_eq x) h (x ∷ []) ∙ or_right (is_among x h) _ (ap (λ b. b || false) (eq-eqb x x refl))

joined : (x : ℕ) (h : List ℕ) → is_among x (joins h x) ≡ true
joined x h =
    let cases : (b : Bool) → is_among x h ≡ b → is_among x (if b then h else h ++ x ∷ []) ≡ true = λ b. elim b as (λ b. is_among x h ≡ b → is_among x (if b then h else h ++ x ∷ []) ≡ true) [ true ↦ λ e. e | false ↦ λ _. at_end x h ] in
    cases (is_among x h) refl

among_folded : (x : ℕ) (h ys : List ℕ) → is_among x h ≡ true → is_among x (fold joins h ys) ≡ true
among_folded x h [] k = k
among_folded x h (y ∷ ys) k = among_folded x (joins h y) ys (among_joins x y h k)

has_folded : (h xs ys : List ℕ) → Has h xs → Has (fold joins h ys) xs
has_folded h [] ys k = tt
has_folded h (x ∷ xs) ys k = (among_folded x h ys k.0, has_folded h xs ys k.1)

has_all : (h xs : List ℕ) → Has (fold joins h xs) xs
has_all h [] = tt
has_all h (x ∷ xs) = (among_folded x (joins h x) xs (joined x h), has_all (joins h x) xs)

-- what one of some elements holds is held once all have been taken in
has_of : {X : Type 0} (q : ℕ) (f : X → List Holding) (xs : List X) (at : ℕ) (d x : X) (h : List ℕ) → at < length xs → x ≡ get_or xs at d → Has (fold joins h (held_by q (flat_map f xs))) (held_by q (f x))
has_of q f [] at d x h l e = absurd (omega arith)
has_of q f (y ∷ ys) zero d x h l e =
    subst (λ z. Has (fold joins h (held_by q (f z ++ flat_map f ys))) (held_by q (f x))) e
    (subst (λ z. Has z (held_by q (f x))) (sym (ap (fold joins h) (held-append q (f x) (flat_map f ys)) ∙ fold-append joins h (held_by q (f x)) (held_by q (flat_map f ys))))
    (has_folded (fold joins h (held_by q (f x))) (held_by q (f x)) (held_by q (flat_map f ys)) (has_all h (held_by q (f x)))))
has_of q f (y ∷ ys) (suc n) d x h l e =
    subst (λ z. Has z (held_by q (f x))) (sym (ap (fold joins h) (held-append q (f y) (flat_map f ys)) ∙ fold-append joins h (held_by q (f y)) (held_by q (flat_map f ys))))
    (has_of q f ys n d x (fold joins h (held_by q (f y))) (omega arith) e)

-- an iteration of a loop that takes nothing in, since an element before holds the same
pub holds_again : {X : Type 0} (f : X → List Holding) (xs : List X) (i : ℕ) (d x : X) (a b : Sets) (at : ℕ) (y : X) → i < length xs → x ≡ get_or xs i d
    → at < length (take i xs) → y ≡ get_or (take i xs) at y → f y ≡ f x → Holds a b (flat_map f (take i xs)) → Holds a b (flat_map f (take (i + 1) xs))
holds_again f xs i d x a b at y h e l g s t = λ q.
    let before = held_by q (flat_map f (take i xs)) in
    let more : held_by q (flat_map f (take (i + 1) xs)) ≡ before ++ held_by q (f x) =
    ap (held_by q) (flat_map_take f xs i d x h e) ∙ held-append q (flat_map f (take i xs)) (f x)
    in
    let has : Has (fold joins (held_in a q) before) (held_by q (f x)) = subst (λ z. Has (fold joins (held_in a q) before) (held_by q z)) s (has_of q f (take i xs) at y y (held_in a q) l g) in
    t q ∙ sym (ap (fold joins (held_in a q)) more ∙ (fold-append joins (held_in a q) before (held_by q (f x)) ∙ has_same (fold joins (held_in a q) before) (held_by q (f x)) has))

-- the captures of a mention that uses a variable which can be copied
pub made_captures : (assigned : List ℕ) (p : Mention) (d : Declared) → p.declared ≡ Some d → copies assigned p d ≡ true → holds_all d.offset (inside d.owner p.functions) ≡ captures_in assigned p
made_captures assigned p d e k = sym (ap (captures_of assigned p) e ∙ ap (λ (b : Bool). if b then holds_all d.offset (inside d.owner p.functions) else []) k)

-- a capture into the first of some functions, and into the rest
held_first : (q f v : ℕ) (h rest : List ℕ) → fold joins (fold joins h (held_by q (hold f v ∷ []))) rest ≡ fold joins h (if nat_eq f q then v ∷ rest else rest)
held_first q f v h rest =
    elim (nat_eq f q) as (λ b. fold joins (fold joins h (if b then v ∷ [] else [])) rest ≡ fold joins h (if b then v ∷ rest else rest)) [ true ↦ refl | false ↦ refl ]

pub inside_step : (q f v owner : ℕ) (fs h n : List ℕ) → nat_eq f owner ≡ false → n ≡ fold joins h (held_by q (hold f v ∷ []))
    → fold joins n (held_by q (holds_all v (inside owner fs))) ≡ fold joins h (held_by q (holds_all v (inside owner (f ∷ fs))))
inside_step q f v owner fs h n ne e =
    ap (λ z. fold joins z (held_by q (holds_all v (inside owner fs)))) e
    ∙ (held_first q f v h (held_by q (holds_all v (inside owner fs)))
    ∙ ap (λ b. fold joins h (held_by q (holds_all v (if b then [] else f ∷ inside owner fs)))) (sym ne))

pub inside_stop : (q f v owner : ℕ) (fs h : List ℕ) → nat_eq f owner ≡ true → h ≡ fold joins h (held_by q (holds_all v (inside owner (f ∷ fs))))
inside_stop q f v owner fs h e = ap (λ b. fold joins h (held_by q (holds_all v (if b then [] else f ∷ inside owner fs)))) (sym e)

-- a list of mentions, as the walk holds them
pub flat_map_held : {A : Type 0} (f : Mention → List A) (xs : List HeldMention) → flat_map (λ p. f (mention_of p)) xs ≡ flat_map f (map mention_of xs)
flat_map_held f xs = sym (flat_map-map f mention_of xs)

-- a map that was empty holds what it took in
from_empty : (a b : Sets) (hs : List Holding) → a.entries ≡ [] → Holds a b hs → (q : ℕ) → held_in b q ≡ fold joins [] (held_by q hs)
from_empty a b hs e t q = t q ∙ ap (λ es. fold joins (keys_of (lookup (nat_eq q) es)) (held_by q hs)) e

pub slots_taken : (assigned : List ℕ) (ps : List HeldMention) (a d : Sets) → a.entries ≡ []
    → Holds a d (flat_map (λ p. parameter_in (mention_of p)) ps ++ (flat_map (λ p. captures_in assigned (mention_of p)) ps ++ flat_map (λ p. variable_in assigned (mention_of p)) ps))
    → (q : ℕ) → held_in d q ≡ slots_of assigned q (map mention_of ps)
unfolding slots_of holdings
slots_taken assigned ps a d e h q =
    from_empty a d _ e h q
    ∙ (ap (λ xs. fold joins [] (held_by q (xs ++ (flat_map (λ p. captures_in assigned (mention_of p)) ps ++ flat_map (λ p. variable_in assigned (mention_of p)) ps)))) (flat_map_held parameter_in ps)
    ∙ (ap (λ xs. fold joins [] (held_by q (flat_map parameter_in (map mention_of ps) ++ (xs ++ flat_map (λ p. variable_in assigned (mention_of p)) ps)))) (flat_map_held (captures_in assigned) ps)
    ∙ ap (λ xs. fold joins [] (held_by q (flat_map parameter_in (map mention_of ps) ++ (flat_map (captures_in assigned) (map mention_of ps) ++ xs)))) (flat_map_held (variable_in assigned) ps)))

pub captures_taken : (assigned : List ℕ) (ps : List HeldMention) (a b : Sets) → a.entries ≡ [] → Holds a b (flat_map (λ p. captures_in assigned (mention_of p)) ps)
    → (q : ℕ) → held_in b q ≡ captures assigned q (map mention_of ps)
unfolding captures
captures_taken assigned ps a b e h q = from_empty a b _ e h q ∙ ap (λ xs. fold joins [] (held_by q xs)) (flat_map_held (captures_in assigned) ps)

pub vars_taken : (assigned : List ℕ) (ps : List HeldMention) (a b : Sets) → a.entries ≡ [] → Holds a b (flat_map (λ p. var_in assigned (mention_of p)) ps)
    → (q : ℕ) → held_in b q ≡ vars_of assigned q (map mention_of ps)
unfolding vars_of
vars_taken assigned ps a b e h q = from_empty a b _ e h q ∙ ap (λ xs. fold joins [] (held_by q xs)) (flat_map_held (var_in assigned) ps)
