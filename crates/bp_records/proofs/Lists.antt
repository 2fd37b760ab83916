-- What holds of each item of a list.
use Rattle.std.proofs.Common.{ℕ, zero, suc, List, [], ◌∷◌, ◌++◌, Option, Some, None, map}
use Rattle.std.specs.Prelude.{take, drop, replicate, slice_get, slice_set, unwrap_or, flat_map}
use Rattle.js_data.proofs.Shared.{OfSome}

abbrev pub Each : {A : Type 0} → (A → Type 0) → List A → Type 0
Each P [] = Unit {0}
Each P (x ∷ xs) = P x × Each P xs

module _ {A : Type 0} (P : A → Type 0) where
  pub each_append : (xs ys : List A) → Each P xs → Each P ys → Each P (xs ++ ys)
  each_append [] ys h k = k
  each_append (x ∷ xs) ys h k = (h.0, each_append xs ys h.1 k)

  pub each_get : (xs : List A) (i : ℕ) → Each P xs → OfSome P (slice_get xs i)
  each_get [] i h = tt
  each_get (x ∷ xs) zero h = h.0
  each_get (x ∷ xs) (suc i) h = each_get xs i h.1

  pub each_set : (xs : List A) (i : ℕ) (y : A) → Each P xs → P y → Each P (slice_set xs i y)
  each_set [] i y h k = tt
  each_set (x ∷ xs) zero y h k = (k, h.1)
  each_set (x ∷ xs) (suc i) y h k = (h.0, each_set xs i y h.1 k)

  pub each_take : (n : ℕ) (xs : List A) → Each P xs → Each P (take n xs)
  each_take zero xs h = tt
  each_take (suc n) [] h = tt
  each_take (suc n) (x ∷ xs) h = (h.0, each_take n xs h.1)

  pub each_drop : (n : ℕ) (xs : List A) → Each P xs → Each P (drop n xs)
  each_drop zero xs h = h
  each_drop (suc n) [] h = tt
  each_drop (suc n) (x ∷ xs) h = each_drop n xs h.1

  pub each_replicate : (n : ℕ) (x : A) → P x → Each P (replicate n x)
  each_replicate zero x h = tt
  each_replicate (suc n) x h = (h, each_replicate n x h)

  pub or_default : (o : Option A) (d : A) → OfSome P o → P d → P (unwrap_or o d)
  or_default None d h k = k
  or_default (Some x) d h k = h

pub each_map : {A B : Type 0} (P : A → Type 0) (Q : B → Type 0) (f : A → B) → ((x : A) → P x → Q (f x)) → (xs : List A) → Each P xs → Each Q (map f xs)
each_map P Q f h [] k = tt
each_map P Q f h (x ∷ xs) k = (h x k.0, each_map P Q f h xs k.1)

pub each_flat_map : {A B : Type 0} (P : A → Type 0) (Q : B → Type 0) (f : A → List B) → ((x : A) → P x → Each Q (f x)) → (xs : List A) → Each P xs → Each Q (flat_map f xs)
each_flat_map P Q f h [] k = tt
each_flat_map P Q f h (x ∷ xs) k = each_append Q (f x) (flat_map f xs) (h x k.0) (each_flat_map P Q f h xs k.1)
