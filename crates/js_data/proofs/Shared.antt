-- Facts about choices, options and lists that the crates above share.
use Rattle.std.proofs.Common.{◌≡◌, ◌∙◌, ℕ, zero, suc, ◌+◌, ◌<◌, add-one, true, false, Bool, inl, inr, List, [], ◌∷◌, ◌++◌, length, take, drop, get_or, filter, flat_map, append-nil, take-append-drop, Option, Some, None, option_map, is_some, refl, sym, ap, if◌then◌else◌, ◌||◌, arith}
use Rattle.std.proofs.Math.Seq.{drop-cons}
use Rattle.std.proofs.lemmas.Grind.{flat_map-append}
use Rattle.std.proofs.lemmas.List.{take_more}
use Rattle.std.specs.List.{list_any}
use Rattle.std.proofs.lemmas.Bool.{or_cases, or_right}
use Rattle.std.specs.Option.{option_and_then}
use Rattle.std.proofs.lemmas.Option.{same_Some}
use Rattle.js_data.specs.Event.{PlainEvent}

-- ---- choices

pub if_true : {A : Type 0} (t : Bool) (x y : A) → t ≡ true → (if t then x else y) ≡ x
if_true t x y h = rw h refl

pub if_false : {A : Type 0} (t : Bool) (x y : A) → t ≡ false → (if t then x else y) ≡ y
if_false t x y h = rw h refl

-- ---- options

-- P of the value, if there is one
abbrev pub OfSome : {A : Type 0} → (A → Type 0) → Option A → Type 0
OfSome P None = Unit {0}
OfSome P (Some x) = P x

-- an answer is one answer
pub one_answer : {A : Type 0} (o : Option A) (x y : A) → o ≡ Some x → o ≡ Some y → x ≡ y
one_answer o x y h k = same_Some x y (sym h ∙ k)

-- an answer of two steps in turn is that of the second on the first's
pub chained : {A B : Type 0} (f : A → Option B) (o : Option A) (y : B) → option_and_then f o ≡ Some y → (x : A) × (o ≡ Some x) × (f x ≡ Some y)
chained f None y h = absurd (cc)
chained f (Some x) y h = (x, refl, h)

-- one that is there
pub known : {A : Type 0} (o : Option A) → is_some o ≡ true → (x : A) × (o ≡ Some x)
known None h = absurd (cc)
known (Some x) h = (x, refl)

pub none_of : {A : Type 0} (o : Option A) → is_some o ≡ false → o ≡ None
none_of None h = refl
none_of (Some x) h = absurd (cc)

-- an answer that was mapped is that of one that was there
pub mapped : {A B : Type 0} (f : A → B) (o : Option A) (y : B) → option_map f o ≡ Some y → (x : A) × (o ≡ Some x) × (f x ≡ y)
mapped f None y h = absurd (cc)
mapped f (Some x) y h = (x, refl, same_Some (f x) y h)

-- ---- lists

-- what is left of a list begins with its next element, whatever stands for one past the end
pub drop_at : {A : Type 0} (xs : List A) (i : ℕ) (d x : A) → i < length xs → x ≡ get_or xs i d → drop i xs ≡ x ∷ drop (i + 1) xs
drop_at xs i d x h e = rw add-one (drop-cons xs i d h ∙ ap (λ y. y ∷ drop (suc i) xs) (sym e))

pub drop_is : {A : Type 0} (xs : List A) (i : ℕ) (x : A) → i < length xs → x ≡ get_or xs i x → drop i xs ≡ x ∷ drop (i + 1) xs
drop_is xs i x h e = drop_at xs i x x h e

-- an element that what is left begins with stands there, and the rest is what is left after it
pub drop_next : {A : Type 0} (xs : List A) (i : ℕ) (x : A) (rest : List A) → drop i xs ≡ x ∷ rest → (i < length xs) × ((d : A) → get_or xs i d ≡ x) × (drop (i + 1) xs ≡ rest)
drop_next [] zero x rest e = cc
drop_next [] (suc i) x rest e = cc
drop_next (y ∷ ys) zero x rest e = (omega arith, (λ d. cc), cc)
drop_next (y ∷ ys) (suc i) x rest e = let h = drop_next ys i x rest e in (omega arith, (λ d. h.1 d), rw add-one (rw add-one at h.2))

-- what is made of the first elements, with the next
pub flat_map_take : {X A : Type 0} (f : X → List A) (xs : List X) (i : ℕ) (d x : X) → i < length xs → x ≡ get_or xs i d → flat_map f (take (i + 1) xs) ≡ flat_map f (take i xs) ++ f x
flat_map_take f xs i d x h e =
    ap (flat_map f) (take_more xs i d h) ∙ flat_map-append f (take i xs) (get_or xs i d ∷ [])
    ∙ ap (λ ys. flat_map f (take i xs) ++ ys) (append-nil (f (get_or xs i d))) ∙ ap (λ y. flat_map f (take i xs) ++ f y) (sym e)

-- and with the next and those after it
pub flat_map_split : {X A : Type 0} (f : X → List A) (xs : List X) (i : ℕ) (x : X) → i < length xs → x ≡ get_or xs i x →
    flat_map f xs ≡ flat_map f (take i xs) ++ (f x ++ flat_map f (drop (i + 1) xs))
flat_map_split f xs i x h e =
    ap (flat_map f) (sym (take-append-drop i xs)) ∙ flat_map-append f (take i xs) (drop i xs) ∙ ap (λ ys. flat_map f (take i xs) ++ flat_map f ys) (drop_is xs i x h e)

-- what is found among those that are kept is found
any_kept : {A : Type 0} (q p : A → Bool) (x : A) (xs : List A) (b : Bool) → (list_any q (filter p xs) ≡ true → list_any q xs ≡ true) →
    list_any q (if b then x ∷ filter p xs else filter p xs) ≡ true → (q x || list_any q xs) ≡ true
any_kept q p x xs true ih h = elim (or_cases (q x) (list_any q (filter p xs)) h) [ inl k ↦ rw k refl | inr k ↦ or_right (q x) (list_any q xs) (ih k) ]
any_kept q p x xs false ih h = or_right (q x) (list_any q xs) (ih h)

pub any_filter : {A : Type 0} (q p : A → Bool) (xs : List A) → list_any q (filter p xs) ≡ true → list_any q xs ≡ true
any_filter q p [] h = h
any_filter q p (x ∷ xs) h = any_kept q p x xs (p x) (any_filter q p xs) h

-- what is kept of two lists, one after the other
pub kept-append : {X K : Type 0} (F : List X → List K) (t : X → Bool) (key : X → K) → F [] ≡ [] → ((x : X) (xs : List X) → F (x ∷ xs) ≡ (if t x then key x ∷ F xs else F xs)) →
    (xs ys : List X) → F (xs ++ ys) ≡ F xs ++ F ys
kept-append F t key none step [] ys = ap (λ z. z ++ F ys) (sym none)
kept-append F t key none step (x ∷ xs) ys =
    step x (xs ++ ys)
    ∙ elim (t x) as (λ b. (if b then key x ∷ F (xs ++ ys) else F (xs ++ ys)) ≡ (if b then key x ∷ F xs else F xs) ++ F ys)
    [ true ↦ ap (λ z. key x ∷ z) (kept-append F t key none step xs ys) | false ↦ kept-append F t key none step xs ys ]
    ∙ ap (λ z. z ++ F ys) (sym (step x xs))

-- ---- events

-- the event with this name and nothing more
abbrev pub named : List ℕ → PlainEvent
named name = record { name = name; extra = None }
