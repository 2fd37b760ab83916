-- Changes of one element.
use Rattle.std.proofs.Common.{◌≡◌, ℕ, zero, suc, ◌<◌, ◌≤◌, List, [], ◌∷◌, ◌++◌, length, map, set, get_or, refl, sym, ap, ◌∙◌, arith, Option, Some, slice_get, option_map}
use Rattle.std.specs.List.{filter_map, cons_option}
use Rattle.std.proofs.lemmas.List.{nil_from_length, length-map}
use Rattle.std.specs.declared.vec.IntoIter.{IntoIter}
use Rattle.std.specs.Vec.Iter.{into_iter_len, into_iter_items}
use Rattle.std.proofs.lemmas.Option.{slice_get-map, slice_get-get_or}
use Rattle.std.proofs.lemmas.List.Elements.{filter_map-append}
use Rattle.bp_run.specs.Configuration.{change}

-- a change that leaves what is there
pub change_none : {A : Type 0} (f : A → A) (i : ℕ) (xs : List A) → ((x : A) → slice_get xs i ≡ Some x → f x ≡ x) → change f i xs ≡ xs
change_none f i [] h = refl
change_none f zero (x ∷ xs) h = ap (λ y. y ∷ xs) (h x refl)
change_none f (suc i) (x ∷ xs) h = ap (λ ys. x ∷ ys) (change_none f i xs h)

pub change_twice : {A : Type 0} (f g : A → A) (i : ℕ) (xs : List A) → change f i (change g i xs) ≡ change (λ x. f (g x)) i xs
change_twice f g i [] = refl
change_twice f g zero (x ∷ xs) = refl
change_twice f g (suc i) (x ∷ xs) = ap (λ ys. x ∷ ys) (change_twice f g i xs)

-- an element that is written
at_map : {A B : Type 0} (v : A → B) (f : B → B) (xs : List A) (i : ℕ) (d u : A) → i < length (map v xs) → v u ≡ f (v (get_or xs i d)) → map v (set xs i u) ≡ change f i (map v xs)
at_map v f [] i d u h e = absurd (omega arith)
at_map v f (x ∷ xs) zero d u h e = ap (λ y. y ∷ map v xs) e
at_map v f (x ∷ xs) (suc i) d u h e = ap (λ ys. v x ∷ ys) (at_map v f xs i d u (omega arith) e)

pub written : {A B : Type 0} (v : A → B) (f : B → B) (xs : List A) (seen : List B) (i : ℕ) (d u : A) → map v xs ≡ seen → i < length seen → d ≡ get_or xs i d →
    v u ≡ f (v d) → map v (set xs i u) ≡ change f i seen
written v f xs seen i d u h k g e =
    at_map v f xs i d u (rw h k) (e ∙ ap (λ x. f (v x)) g) ∙ ap (λ ys. change f i ys) h

-- an element that is read
pub read_at : {A B : Type 0} (v : A → B) (xs : List A) (seen : List B) (i : ℕ) (d : A) → map v xs ≡ seen → i < length seen → d ≡ get_or xs i d → slice_get seen i ≡ Some (v d)
read_at v xs seen i d h k g =
    sym (ap (λ ys. slice_get ys i) h) ∙ (slice_get-map v xs i ∙ ap (option_map v) (slice_get-get_or xs i d (let m = ap length h in omega (arith, k, m, length-map xs v)))) ∙ ap (λ x. Some (v x)) (sym g)

pub found : {A : Type 0} (xs : List A) (i : ℕ) → i < length xs → (x : A) × (slice_get xs i ≡ Some x)
found [] i h = absurd (omega arith)
found (x ∷ xs) zero h = (x, refl)
found (x ∷ xs) (suc i) h = found xs i (omega arith)

pub get_map : {A B : Type 0} (v : A → B) (xs : List A) (i : ℕ) (x : A) → slice_get xs i ≡ Some x → slice_get (map v xs) i ≡ Some (v x)
get_map v xs i x h = slice_get-map v xs i ∙ ap (option_map v) h

pub filter_map_last : {A B : Type 0} (f : A → Option B) (xs : List A) (x : A) (y : B) → f x ≡ Some y → filter_map f (xs ++ x ∷ []) ≡ filter_map f xs ++ y ∷ []
filter_map_last f xs x y h = filter_map-append f xs (x ∷ []) ∙ ap (λ o. filter_map f xs ++ cons_option o []) h

-- a change seen through a map, where it is made
pub change_map_at : {A B : Type 0} (v : A → B) (f : A → A) (g : B → B) (i : ℕ) (xs : List A) → ((x : A) → slice_get xs i ≡ Some x → v (f x) ≡ g (v x)) → map v (change f i xs) ≡ change g i (map v xs)
change_map_at v f g i [] h = refl
change_map_at v f g zero (x ∷ xs) h = ap (λ y. y ∷ map v xs) (h x refl)
change_map_at v f g (suc i) (x ∷ xs) h = ap (λ ys. v x ∷ ys) (change_map_at v f g i xs h)

-- a change seen through a map
pub change_map : {A B : Type 0} (v : A → B) (f : A → A) (g : B → B) (i : ℕ) (xs : List A) → ((x : A) → v (f x) ≡ g (v x)) → map v (change f i xs) ≡ change g i (map v xs)
change_map v f g i xs h = change_map_at v f g i xs (λ x _. h x)

-- this many were changed
abbrev pub changed_first : {A : Type 0} → (A → A) → ℕ → List A → List A
changed_first f n [] = []
changed_first f zero (x ∷ xs) = x ∷ xs
changed_first f (suc n) (x ∷ xs) = f x ∷ changed_first f n xs

pub changed_none : {A : Type 0} (f : A → A) (xs : List A) → changed_first f 0 xs ≡ xs
changed_none f [] = refl
changed_none f (x ∷ xs) = refl

pub changed_next : {A : Type 0} (f : A → A) (n : ℕ) (xs : List A) → change f n (changed_first f n xs) ≡ changed_first f (suc n) xs
changed_next f n [] = refl
changed_next f zero (x ∷ xs) = ap (λ ys. f x ∷ ys) (sym (changed_none f xs))
changed_next f (suc n) (x ∷ xs) = ap (λ ys. f x ∷ ys) (changed_next f n xs)

pub changed_all : {A : Type 0} (f : A → A) (n : ℕ) (xs : List A) → length xs ≤ n → changed_first f n xs ≡ map f xs
changed_all f n [] h = refl
changed_all f zero (x ∷ xs) h = absurd (omega arith)
changed_all f (suc n) (x ∷ xs) h = ap (λ ys. f x ∷ ys) (changed_all f n xs (omega (arith, h)))

pub changed_length : {A : Type 0} (f : A → A) (n : ℕ) (xs : List A) → length (changed_first f n xs) ≡ length xs
changed_length f n [] = refl
changed_length f zero (x ∷ xs) = refl
changed_length f (suc n) (x ∷ xs) = ap (λ (m : ℕ). suc m) (changed_length f n xs)

-- nothing is still to come
pub nothing_to_come : {X Z : Type 0} (it : IntoIter X Z) → into_iter_len it ≡ 0 → into_iter_items it ≡ []
nothing_to_come it h = nil_from_length it.rest.items (sym it.rest.ok.0 ∙ h)
