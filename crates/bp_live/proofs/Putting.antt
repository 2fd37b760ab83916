-- Statements put at their places.
use Rattle.std.proofs.Common.{◌≡◌, ℕ, zero, suc, ◌<◌, ◌≤◌, arith, Bool, true, false, List, [], ◌∷◌, ◌++◌, length, map, take, drop, set, get_or, refl, ap, sym, ◌∙◌, subst, Option, Some, None, nat_lt, nat_eq, if◌then◌else◌, slice_get}
use Rattle.std.specs.List.{AllWithin, cons_option, insert}
use Rattle.std.proofs.lemmas.Bool.{lt-ltb, le-ltb, ltb-false, ltb-true, eqb-true, eq-eqb, ne_eqb}
use Rattle.js_value.specs.Value.{PlainSet}
use Rattle.bp_run.specs.Bodies.{Statement}
use Rattle.bp_run.specs.Selecting.{Live}
use Rattle.bp_live.specs.declared.stated.Stated.{Stated}
use Rattle.bp_live.specs.Lives.{live_of}
use Rattle.bp_live.specs.Placing.{live_at, placed}
use Rattle.bp_live.specs.Numbers.{place_in, is_number}
use Rattle.bp_live.specs.Places.{AreAbove, AreInOrder}

-- ---- where it stands

pub place_of_one : (n : ℕ) (x : Stated) (rest : List Stated) (b : Bool) → nat_lt (live_of x).number n ≡ b → place_in n (map live_of (x ∷ rest)) ≡ (if b then suc (place_in n (map live_of rest)) else 0)
place_of_one n x rest b h = rw h refl

point_place_at : (n : ℕ) (x : Stated) (xs : List Stated) (i : ℕ) → nat_lt x.number n ≡ true → i ≡ place_in n (map live_of xs) → suc i ≡ place_in n (map live_of (x ∷ xs))
point_place_at n x xs i h k = ap suc k ∙ sym (place_of_one n x xs true h)

-- those before it have smaller numbers, and those from it on have none
pub point_place : (n : ℕ) (xs : List Stated) (i : ℕ) → i ≤ length xs → AllWithin (λ y. nat_lt y.number n ≡ true) xs 0 i → AllWithin (λ y. nat_lt y.number n ≡ false) xs i (length xs) →
    i ≡ place_in n (map live_of xs)
point_place n [] zero h k m = refl
point_place n [] (suc i) h k m = absurd (omega arith)
point_place n (x ∷ xs) zero h k m = sym (place_of_one n x xs false (m 0 x (omega arith) (omega arith)))
point_place n (x ∷ xs) (suc i) h k m =
    point_place_at n x xs i (k 0 x (omega arith) (omega arith))
    (point_place n xs i (omega arith) (λ j d a b. k (suc j) d (omega arith) (omega arith)) (λ j d a b. m (suc j) d (omega arith) (omega arith)))

pub above_get : (n : ℕ) (xs : List Stated) (j : ℕ) (d : Stated) → AreAbove n (map live_of xs) → j < length xs → n < (get_or xs j d).number
above_get n [] j d h k = absurd (omega arith)
above_get n (x ∷ xs) zero d h k = h.0
above_get n (x ∷ xs) (suc j) d h k = above_get n xs j d h.1 (omega arith)

pub order_rises : (xs : List Stated) → AreInOrder (map live_of xs) → (i j : ℕ) (d : Stated) → i ≤ j → j < length xs → (get_or xs i d).number ≤ (get_or xs j d).number
order_rises [] h i j d p q = absurd (omega arith)
order_rises (x ∷ xs) h zero zero d p q = omega arith
order_rises (x ∷ xs) h zero (suc j) d p q = let m = above_get x.number xs j d h.0 (omega arith) in omega (arith, m)
order_rises (x ∷ xs) h (suc i) zero d p q = absurd (omega arith)
order_rises (x ∷ xs) h (suc i) (suc j) d p q = order_rises xs h.1 i j d (omega arith) (omega arith)

pub place_within : (n : ℕ) (all : List Stated) → place_in n (map live_of all) ≤ length all
place_within n [] = omega arith
place_within n (x ∷ xs) = at (nat_lt (live_of x).number n) refl (place_within n xs)
  where
    at : (b : Bool) → nat_lt (live_of x).number n ≡ b → place_in n (map live_of xs) ≤ length xs → place_in n (map live_of (x ∷ xs)) ≤ suc (length xs)
    at true h k = let e = place_of_one n x xs true h in omega (arith, e, k)
    at false h k = let e = place_of_one n x xs false h in omega (arith, e)

-- ---- what is placed, by the first one

pub placed_before : (n : ℕ) (o : Option (Statement PlainSet)) (t : Live PlainSet) (ts : List (Live PlainSet)) → n < t.number → placed n o (t ∷ ts) ≡ cons_option (live_at n o) (t ∷ ts)
placed_before n o t ts h = rw (lt-ltb n t.number h) refl

pub placed_at : (n : ℕ) (o : Option (Statement PlainSet)) (t : Live PlainSet) (ts : List (Live PlainSet)) → t.number ≡ n → placed n o (t ∷ ts) ≡ cons_option (live_at n o) ts
placed_at n o t ts h = rw (le-ltb n t.number (omega (arith, h)), eq-eqb n t.number (sym h)) refl

pub placed_after : (n : ℕ) (o : Option (Statement PlainSet)) (t : Live PlainSet) (ts : List (Live PlainSet)) → t.number < n → placed n o (t ∷ ts) ≡ t ∷ placed n o ts
placed_after n o t ts h = rw (le-ltb n t.number (omega (arith, h)), ne_eqb n t.number (λ e. omega (arith, e, h))) refl

-- ---- the order stays

pub above : (a n : ℕ) → nat_lt a n ≡ false → nat_eq a n ≡ false → n < a
above a n h k =
    let m : n ≤ a = ltb-false a n h in
    let f : (a ≡ n) → ⊥ = λ e. (let t : nat_eq a n ≡ true = eq-eqb a n e in cc) in
    omega (arith, m, f)

pub above_trans : (a b : ℕ) (ts : List (Live PlainSet)) → a < b → AreAbove b ts → AreAbove a ts
above_trans a b [] h k = tt
above_trans a b (t ∷ ts) h k = let m = k.0 in (omega (arith, h, m), above_trans a b ts h k.1)

module _ (n : ℕ) (o : Option (Statement PlainSet)) where
  above_cons : (a : ℕ) (o : Option (Statement PlainSet)) (ts : List (Live PlainSet)) → a < n → AreAbove a ts → AreAbove a (cons_option (live_at n o) ts)
  above_cons a None ts h k = k
  above_cons a (Some s) ts h k = (h, k)

  above_at : (a : ℕ) (t : Live PlainSet) (ts : List (Live PlainSet)) (b c : Bool) → a < n → AreAbove a (t ∷ ts) → AreAbove a (placed n o ts) →
      AreAbove a (if b then cons_option (live_at n o) (t ∷ ts) else if c then cons_option (live_at n o) ts else t ∷ placed n o ts)
  above_at a t ts true c h k ih = above_cons a o (t ∷ ts) h k
  above_at a t ts false true h k ih = above_cons a o ts h k.1
  above_at a t ts false false h k ih = (k.0, ih)

  above_placed : (a : ℕ) (ts : List (Live PlainSet)) → a < n → AreAbove a ts → AreAbove a (placed n o ts)
  above_placed a [] h k = above_cons a o [] h tt
  above_placed a (t ∷ ts) h k = above_at a t ts (nat_lt n t.number) (nat_eq n t.number) h k (above_placed a ts h k.1)

  order_cons : (o : Option (Statement PlainSet)) (ts : List (Live PlainSet)) → AreAbove n ts → AreInOrder ts → AreInOrder (cons_option (live_at n o) ts)
  order_cons None ts h k = k
  order_cons (Some s) ts h k = (h, k)

  order_at : (t : Live PlainSet) (ts : List (Live PlainSet)) (b c : Bool) → nat_lt n t.number ≡ b → nat_eq n t.number ≡ c → AreInOrder (t ∷ ts) → AreInOrder (placed n o ts) →
      AreInOrder (if b then cons_option (live_at n o) (t ∷ ts) else if c then cons_option (live_at n o) ts else t ∷ placed n o ts)
  order_at t ts true c p q h ih = let m = ltb-true n t.number p in order_cons o (t ∷ ts) (m, above_trans n t.number ts m h.0) h
  order_at t ts false true p q h ih = order_cons o ts (subst (λ (i : ℕ). AreAbove i ts) (sym (eqb-true n t.number q)) h.0) h.1
  order_at t ts false false p q h ih = (above_placed t.number ts (above n t.number p q) h.0, ih)

  pub order_placed : (ts : List (Live PlainSet)) → AreInOrder ts → AreInOrder (placed n o ts)
  order_placed [] h = order_cons o [] tt tt
  order_placed (t ∷ ts) h = order_at t ts (nat_lt n t.number) (nat_eq n t.number) refl refl h (order_placed ts h.1)

-- ---- in the place of one of its number

abbrev Set_is : ℕ → Stated → Option (Statement PlainSet) → List Stated → ℕ → Type 0
Set_is n x o xs k = map live_of (set xs k x) ≡ placed n o (map live_of xs)

set_at : (n : ℕ) (x y : Stated) (o : Option (Statement PlainSet)) (xs : List Stated) (k : ℕ) (b : Bool) → nat_lt (live_of y).number n ≡ b → k ≡ (if b then suc (place_in n (map live_of xs)) else 0) →
    Some (live_of x) ≡ live_at n o → is_number n (slice_get (map live_of (y ∷ xs)) k) ≡ true →
    (is_number n (slice_get (map live_of xs) (place_in n (map live_of xs))) ≡ true → Set_is n x o xs (place_in n (map live_of xs))) → Set_is n x o (y ∷ xs) k
set_at n x y o xs k true h e s f ih =
    let j = place_in n (map live_of xs) in
    let f' : is_number n (slice_get (map live_of xs) j) ≡ true = subst (λ (i : ℕ). is_number n (slice_get (map live_of (y ∷ xs)) i) ≡ true) e f in
    subst (λ (i : ℕ). Set_is n x o (y ∷ xs) i) (sym e)
    (ap (λ (ts : List (Live PlainSet)). live_of y ∷ ts) (ih f') ∙ sym (placed_after n o (live_of y) (map live_of xs) (ltb-true (live_of y).number n h)))
set_at n x y o xs k false h e s f ih =
    let f' : nat_eq (live_of y).number n ≡ true = subst (λ (i : ℕ). is_number n (slice_get (map live_of (y ∷ xs)) i) ≡ true) e f in
    subst (λ (i : ℕ). Set_is n x o (y ∷ xs) i) (sym e)
    (ap (λ (t : Option (Live PlainSet)). cons_option t (map live_of xs)) s ∙ sym (placed_at n o (live_of y) (map live_of xs) (eqb-true (live_of y).number n f')))

set_in : (n : ℕ) (x : Stated) (o : Option (Statement PlainSet)) (xs : List Stated) → Some (live_of x) ≡ live_at n o → is_number n (slice_get (map live_of xs) (place_in n (map live_of xs))) ≡ true →
    Set_is n x o xs (place_in n (map live_of xs))
set_in n x o [] s f = absurd (cc)
set_in n x o (y ∷ xs) s f =
    set_at n x y o xs (place_in n (map live_of (y ∷ xs))) (nat_lt (live_of y).number n) refl (place_of_one n y xs (nat_lt (live_of y).number n) refl) s f (λ g. set_in n x o xs s g)

pub put_set : (n : ℕ) (x : Stated) (o : Option (Statement PlainSet)) (xs : List Stated) (k : ℕ) (b : Bool) → Some (live_of x) ≡ live_at n o → k ≡ place_in n (map live_of xs) →
    b ≡ is_number n (slice_get (map live_of xs) k) → b ≡ true → map live_of (set xs k x) ≡ placed n o (map live_of xs)
put_set n x o xs k b s e f t =
    subst (λ (i : ℕ). Set_is n x o xs i) (sym e) (set_in n x o xs s (subst (λ (i : ℕ). is_number n (slice_get (map live_of xs) i) ≡ true) e (sym f ∙ t)))

-- ---- where none has its number

abbrev Insert_is : ℕ → Stated → Option (Statement PlainSet) → List Stated → ℕ → Type 0
Insert_is n x o xs k = map live_of (take k xs ++ x ∷ drop k xs) ≡ placed n o (map live_of xs)

insert_at : (n : ℕ) (x y : Stated) (o : Option (Statement PlainSet)) (xs : List Stated) (k : ℕ) (b : Bool) → nat_lt (live_of y).number n ≡ b → k ≡ (if b then suc (place_in n (map live_of xs)) else 0) →
    Some (live_of x) ≡ live_at n o → is_number n (slice_get (map live_of (y ∷ xs)) k) ≡ false →
    (is_number n (slice_get (map live_of xs) (place_in n (map live_of xs))) ≡ false → Insert_is n x o xs (place_in n (map live_of xs))) → Insert_is n x o (y ∷ xs) k
insert_at n x y o xs k true h e s f ih =
    let j = place_in n (map live_of xs) in
    let f' : is_number n (slice_get (map live_of xs) j) ≡ false = subst (λ (i : ℕ). is_number n (slice_get (map live_of (y ∷ xs)) i) ≡ false) e f in
    subst (λ (i : ℕ). Insert_is n x o (y ∷ xs) i) (sym e)
    (ap (λ (ts : List (Live PlainSet)). live_of y ∷ ts) (ih f') ∙ sym (placed_after n o (live_of y) (map live_of xs) (ltb-true (live_of y).number n h)))
insert_at n x y o xs k false h e s f ih =
    let f' : nat_eq (live_of y).number n ≡ false = subst (λ (i : ℕ). is_number n (slice_get (map live_of (y ∷ xs)) i) ≡ false) e f in
    subst (λ (i : ℕ). Insert_is n x o (y ∷ xs) i) (sym e)
    (ap (λ (t : Option (Live PlainSet)). cons_option t (live_of y ∷ map live_of xs)) s ∙ sym (placed_before n o (live_of y) (map live_of xs) (above (live_of y).number n h f')))

insert_in : (n : ℕ) (x : Stated) (o : Option (Statement PlainSet)) (xs : List Stated) → Some (live_of x) ≡ live_at n o → is_number n (slice_get (map live_of xs) (place_in n (map live_of xs))) ≡ false →
    Insert_is n x o xs (place_in n (map live_of xs))
insert_in n x o [] s f = ap (λ (t : Option (Live PlainSet)). cons_option t []) s
insert_in n x o (y ∷ xs) s f =
    insert_at n x y o xs (place_in n (map live_of (y ∷ xs))) (nat_lt (live_of y).number n) refl (place_of_one n y xs (nat_lt (live_of y).number n) refl) s f (λ g. insert_in n x o xs s g)

pub put_insert : (n : ℕ) (x : Stated) (o : Option (Statement PlainSet)) (xs : List Stated) (k : ℕ) (b : Bool) → Some (live_of x) ≡ live_at n o → k ≡ place_in n (map live_of xs) →
    b ≡ is_number n (slice_get (map live_of xs) k) → b ≡ false → map live_of (insert xs k x) ≡ placed n o (map live_of xs)
put_insert n x o xs k b s e f t =
    subst (λ (i : ℕ). Insert_is n x o xs i) (sym e) (insert_in n x o xs s (subst (λ (i : ℕ). is_number n (slice_get (map live_of xs) i) ≡ false) e (sym f ∙ t)))
