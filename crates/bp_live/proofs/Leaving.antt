-- Statements put and taken away where some are not live.
use Rattle.std.proofs.Common.{◌≡◌, ℕ, zero, suc, ◌+◌, ◌-◌, ◌<◌, ◌≤◌, arith, Bool, true, false, not, ◌||◌, ◌&&◌, List, [], ◌∷◌, length, map, set, get_or, filter, refl, ap, sym, ◌∙◌, subst, Option, Some, None, nat_lt, if◌then◌else◌, slice_get}
use Rattle.std.specs.List.{cons_option, insert, list_any, remove}
use Rattle.std.proofs.lemmas.Bool.{ltb-true, eqb-true}
use Rattle.js_value.specs.Value.{PlainSet}
use Rattle.bp_run.specs.Bodies.{Statement}
use Rattle.js_data.specs.Event.{PlainEvent}
use Rattle.bp_run.specs.Selecting.{Live, requests, requested}
use Rattle.bp_thread.specs.Views.{plain_statement}
use Rattle.bp_live.specs.declared.stated.Stated.{Stated}
use Rattle.bp_live.specs.Lives.{live_of}
use Rattle.bp_live.specs.Lists.{live_in, gap, gone_in, is_gap, HasGaps}
use Rattle.bp_live.specs.Placing.{live_at, placed}
use Rattle.bp_live.specs.Numbers.{place_in, is_number}
use Rattle.bp_live.specs.Places.{AreAbove, AreInOrder}
use Rattle.bp_live.proofs.Putting.{above, above_trans, order_placed, place_of_one, placed_before, placed_at, placed_after, put_set, put_insert}

-- ---- those that are live

live_one : (x : Stated) (xs : List Stated) (b : Bool) → x.here ≡ b → live_in (x ∷ xs) ≡ (if b then live_of x ∷ live_in xs else live_in xs)
live_one x xs true h = rw h refl
live_one x xs false h = rw h refl

above_live : (a : ℕ) (xs : List Stated) → AreAbove a (map live_of xs) → AreAbove a (live_in xs)
above_live a [] h = tt
above_live a (x ∷ xs) h = by x.here refl (above_live a xs h.1)
  where
    by : (b : Bool) → x.here ≡ b → AreAbove a (live_in xs) → AreAbove a (live_in (x ∷ xs))
    by true e ih = subst (λ (ts : List (Live PlainSet)). AreAbove a ts) (sym (live_one x xs true e)) (h.0, ih)
    by false e ih = subst (λ (ts : List (Live PlainSet)). AreAbove a ts) (sym (live_one x xs false e)) ih

pub order_live : (xs : List Stated) → AreInOrder (map live_of xs) → AreInOrder (live_in xs)
order_live [] h = tt
order_live (x ∷ xs) h = by x.here refl (order_live xs h.1)
  where
    by : (b : Bool) → x.here ≡ b → AreInOrder (live_in xs) → AreInOrder (live_in (x ∷ xs))
    by true e ih = subst (λ (ts : List (Live PlainSet)). AreInOrder ts) (sym (live_one x xs true e)) (above_live x.number xs h.0, ih)
    by false e ih = subst (λ (ts : List (Live PlainSet)). AreInOrder ts) (sym (live_one x xs false e)) ih

-- all have greater numbers
placed_above : (n : ℕ) (o : Option (Statement PlainSet)) (ts : List (Live PlainSet)) → AreAbove n ts → placed n o ts ≡ cons_option (live_at n o) ts
placed_above n o [] h = refl
placed_above n o (t ∷ ts) h = placed_before n o t ts h.0

-- one of a smaller number stays the first
placed_behind : (n : ℕ) (o : Option (Statement PlainSet)) (y : Stated) (xs ys : List Stated) → y.number < n → live_in xs ≡ placed n o (live_in ys) → live_in (y ∷ xs) ≡ placed n o (live_in (y ∷ ys))
placed_behind n o y xs ys h k = by y.here refl
  where
    by : (b : Bool) → y.here ≡ b → live_in (y ∷ xs) ≡ placed n o (live_in (y ∷ ys))
    by true e =
        live_one y xs true e ∙ ap (λ (ts : List (Live PlainSet)). live_of y ∷ ts) k ∙ sym (placed_after n o (live_of y) (live_in ys) h)
        ∙ ap (λ (ts : List (Live PlainSet)). placed n o ts) (sym (live_one y ys true e))
    by false e = live_one y xs false e ∙ k ∙ ap (λ (ts : List (Live PlainSet)). placed n o ts) (sym (live_one y ys false e))

-- one of this number gives up its place
placed_here : (n : ℕ) (o : Option (Statement PlainSet)) (y : Stated) (ys : List Stated) → y.number ≡ n → AreAbove n (live_in ys) → placed n o (live_in (y ∷ ys)) ≡ cons_option (live_at n o) (live_in ys)
placed_here n o y ys h k = by y.here refl
  where
    by : (b : Bool) → y.here ≡ b → placed n o (live_in (y ∷ ys)) ≡ cons_option (live_at n o) (live_in ys)
    by true e = ap (λ (ts : List (Live PlainSet)). placed n o ts) (live_one y ys true e) ∙ placed_at n o (live_of y) (live_in ys) h
    by false e = ap (λ (ts : List (Live PlainSet)). placed n o ts) (live_one y ys false e) ∙ placed_above n o (live_in ys) k

-- what the one that is put shows
abbrev Shows : ℕ → Option (Statement PlainSet) → Stated → Type 0
Shows n o x = (ys : List Stated) → live_in (x ∷ ys) ≡ cons_option (live_at n o) (live_in ys)

shows_live : (x : Stated) → x.here ≡ true → Shows x.number (Some (plain_statement x.statement)) x
shows_live x h ys = live_one x ys true h

shows_none : (n : ℕ) (x : Stated) → x.here ≡ false → Shows n None x
shows_none n x h ys = live_one x ys false h

module _ (n : ℕ) (x : Stated) (o : Option (Statement PlainSet)) (shows : Shows n o x) where
  -- in the place of one of its number
  set_live : (xs : List Stated) (k : ℕ) → AreInOrder (map live_of xs) → k ≡ place_in n (map live_of xs) → is_number n (slice_get (map live_of xs) k) ≡ true → live_in (set xs k x) ≡ placed n o (live_in xs)
  set_live [] k a e f = absurd (cc)
  set_live (y ∷ xs) k a e f = by (nat_lt (live_of y).number n) refl k (e ∙ place_of_one n y xs (nat_lt (live_of y).number n) refl) f (λ j q m. set_live xs j a.1 q m)
    where
      by : (b : Bool) → nat_lt (live_of y).number n ≡ b → (k : ℕ) → k ≡ (if b then suc (place_in n (map live_of xs)) else 0) → is_number n (slice_get (map live_of (y ∷ xs)) k) ≡ true →
          ((j : ℕ) → j ≡ place_in n (map live_of xs) → is_number n (slice_get (map live_of xs) j) ≡ true → live_in (set xs j x) ≡ placed n o (live_in xs)) →
          live_in (set (y ∷ xs) k x) ≡ placed n o (live_in (y ∷ xs))
      by true h zero e f ih = absurd (omega (arith, e))
      by true h (suc j) e f ih = placed_behind n o y (set xs j x) xs (ltb-true (live_of y).number n h) (ih j (omega (arith, e)) f)
      by false h zero e f ih =
          let same : y.number ≡ n = eqb-true (live_of y).number n f in
          shows xs ∙ sym (placed_here n o y xs same (above_live n xs (subst (λ (i : ℕ). AreAbove i (map live_of xs)) same a.0)))
      by false h (suc j) e f ih = absurd (omega (arith, e))

  -- where none has its number
  insert_live : (xs : List Stated) (k : ℕ) → AreInOrder (map live_of xs) → k ≡ place_in n (map live_of xs) → is_number n (slice_get (map live_of xs) k) ≡ false → live_in (insert xs k x) ≡ placed n o (live_in xs)
  insert_live [] zero a e f = shows []
  insert_live [] (suc k) a e f = absurd (omega (arith, e))
  insert_live (y ∷ xs) k a e f = by (nat_lt (live_of y).number n) refl k (e ∙ place_of_one n y xs (nat_lt (live_of y).number n) refl) f (λ j q m. insert_live xs j a.1 q m)
    where
      by : (b : Bool) → nat_lt (live_of y).number n ≡ b → (k : ℕ) → k ≡ (if b then suc (place_in n (map live_of xs)) else 0) → is_number n (slice_get (map live_of (y ∷ xs)) k) ≡ false →
          ((j : ℕ) → j ≡ place_in n (map live_of xs) → is_number n (slice_get (map live_of xs) j) ≡ false → live_in (insert xs j x) ≡ placed n o (live_in xs)) →
          live_in (insert (y ∷ xs) k x) ≡ placed n o (live_in (y ∷ xs))
      by true h zero e f ih = absurd (omega (arith, e))
      by true h (suc j) e f ih = placed_behind n o y (insert xs j x) xs (ltb-true (live_of y).number n h) (ih j (omega (arith, e)) f)
      by false h zero e f ih =
          let m = above (live_of y).number n h f in
          shows (y ∷ xs) ∙ sym (placed_above n o (live_in (y ∷ xs)) (above_live n (y ∷ xs) (m, above_trans n y.number (map live_of xs) m a.0)))
      by false h (suc j) e f ih = absurd (omega (arith, e))

-- where none has this number, nothing is taken away
pub none_live : (n : ℕ) (xs : List Stated) (k : ℕ) → AreInOrder (map live_of xs) → k ≡ place_in n (map live_of xs) → is_number n (slice_get (map live_of xs) k) ≡ false → live_in xs ≡ placed n None (live_in xs)
none_live n [] k a e f = refl
none_live n (y ∷ xs) k a e f = by (nat_lt (live_of y).number n) refl k (e ∙ place_of_one n y xs (nat_lt (live_of y).number n) refl) f (λ j q m. none_live n xs j a.1 q m)
  where
    by : (b : Bool) → nat_lt (live_of y).number n ≡ b → (k : ℕ) → k ≡ (if b then suc (place_in n (map live_of xs)) else 0) → is_number n (slice_get (map live_of (y ∷ xs)) k) ≡ false →
        ((j : ℕ) → j ≡ place_in n (map live_of xs) → is_number n (slice_get (map live_of xs) j) ≡ false → live_in xs ≡ placed n None (live_in xs)) →
        live_in (y ∷ xs) ≡ placed n None (live_in (y ∷ xs))
    by true h zero e f ih = absurd (omega (arith, e))
    by true h (suc j) e f ih = placed_behind n None y xs xs (ltb-true (live_of y).number n h) (ih j (omega (arith, e)) f)
    by false h zero e f ih =
        let m = above (live_of y).number n h f in
        sym (placed_above n None (live_in (y ∷ xs)) (above_live n (y ∷ xs) (m, above_trans n y.number (map live_of xs) m a.0)))
    by false h (suc j) e f ih = absurd (omega (arith, e))

-- ---- how many are not

gone_set : (xs : List Stated) (k : ℕ) (x d : Stated) → k < length xs → gone_in (set xs k x) + gap (get_or xs k d) ≡ gone_in xs + gap x
gone_set [] k x d h = absurd (omega arith)
gone_set (y ∷ xs) zero x d h = omega arith
gone_set (y ∷ xs) (suc k) x d h = let m = gone_set xs k x d (omega (arith, h)) in omega (arith, m)

gone_insert : (xs : List Stated) (k : ℕ) (x : Stated) → gone_in (insert xs k x) ≡ gone_in xs + gap x
gone_insert [] zero x = omega arith
gone_insert [] (suc k) x = omega arith
gone_insert (y ∷ xs) zero x = omega arith
gone_insert (y ∷ xs) (suc k) x = let m = gone_insert xs k x in omega (arith, m)

gap_most : (x : Stated) → gap x ≤ 1
gap_most x = by x.here
  where
    by : (b : Bool) → (if b then 0 else 1) ≤ 1
    by true = omega arith
    by false = omega arith

pub gap_most_at : (xs : List Stated) (k c : ℕ) → ((d : Stated) → c ≡ gap (get_or xs k d)) → k < length xs → c ≤ 1
gap_most_at [] k c h m = absurd (omega arith)
gap_most_at (x ∷ xs) k c h m = let most = gap_most (get_or (x ∷ xs) k x) in let e = h x in omega (arith, most, e)

pub gone_most : (xs : List Stated) → gone_in xs ≤ length xs
gone_most [] = omega arith
gone_most (x ∷ xs) = let m = gap_most x in let n = gone_most xs in omega (arith, m, n)

-- ---- what put, take_away and tidy make of them

pub at_within : (n k : ℕ) (xs : List Stated) → is_number n (slice_get (map live_of xs) k) ≡ true → k < length xs
at_within n k [] h = absurd (cc)
at_within n zero (x ∷ xs) h = omega arith
at_within n (suc k) (x ∷ xs) h = let m = at_within n k xs h in omega (arith, m)

module _ (xs : List Stated) (count k : ℕ) (counted : HasGaps xs count) where
  pub put_over : (x d : Stated) → x.here ≡ true → k ≡ place_in x.number (map live_of xs) → is_number x.number (slice_get (map live_of xs) k) ≡ true →
      live_in (set xs k x) ≡ placed x.number (Some (plain_statement x.statement)) (live_in xs)
  put_over x d here at is = set_live x.number x (Some (plain_statement x.statement)) (shows_live x here) xs k counted.order at is

  pub put_over_counted : (x d : Stated) (c : ℕ) → x.here ≡ true → k ≡ place_in x.number (map live_of xs) → is_number x.number (slice_get (map live_of xs) k) ≡ true → c ≡ gap (get_or xs k d) →
      HasGaps (set xs k x) (count - c)
  put_over_counted x d c here at is gaps =
      let m = gone_set xs k x d (at_within x.number k xs is) in
      let z : gap x ≡ 0 = ap (λ (b : Bool). if b then 0 else 1) here in
      let g = counted.gone in
      record {
        order = subst (λ (ts : List (Live PlainSet)). AreInOrder ts) (sym (put_set x.number x (Some (plain_statement x.statement)) xs k true refl at (sym is) refl)) (order_placed x.number (Some (plain_statement x.statement)) (map live_of xs) counted.order);
        gone = omega (arith, m, z, g, gaps);
      }

  pub count_gap : (x d : Stated) (c : ℕ) → x.here ≡ true → is_number x.number (slice_get (map live_of xs) k) ≡ true → c ≡ gap (get_or xs k d) → c ≤ count
  count_gap x d c here is gaps =
      let m = gone_set xs k x d (at_within x.number k xs is) in
      let z : gap x ≡ 0 = ap (λ (b : Bool). if b then 0 else 1) here in
      let g = counted.gone in
      omega (arith, m, z, g, gaps)

  pub put_more : (x : Stated) → x.here ≡ true → k ≡ place_in x.number (map live_of xs) → is_number x.number (slice_get (map live_of xs) k) ≡ false →
      live_in (insert xs k x) ≡ placed x.number (Some (plain_statement x.statement)) (live_in xs)
  put_more x here at is = insert_live x.number x (Some (plain_statement x.statement)) (shows_live x here) xs k counted.order at is

  pub put_more_counted : (x : Stated) → x.here ≡ true → k ≡ place_in x.number (map live_of xs) → is_number x.number (slice_get (map live_of xs) k) ≡ false → HasGaps (insert xs k x) count
  put_more_counted x here at is =
      let m = gone_insert xs k x in
      let z : gap x ≡ 0 = ap (λ (b : Bool). if b then 0 else 1) here in
      let g = counted.gone in
      record {
        order = subst (λ (ts : List (Live PlainSet)). AreInOrder ts) (sym (put_insert x.number x (Some (plain_statement x.statement)) xs k false refl at (sym is) refl)) (order_placed x.number (Some (plain_statement x.statement)) (map live_of xs) counted.order);
        gone = omega (arith, m, z, g);
      }

  pub taken : (n : ℕ) (x : Stated) → x.here ≡ false → k ≡ place_in n (map live_of xs) → is_number n (slice_get (map live_of xs) k) ≡ true → live_in (set xs k x) ≡ placed n None (live_in xs)
  taken n x here at is = set_live n x None (shows_none n x here) xs k counted.order at is

-- one that is like another in what it states
same_set : (xs : List Stated) (k : ℕ) (x d : Stated) → k < length xs → live_of x ≡ live_of (get_or xs k d) → map live_of (set xs k x) ≡ map live_of xs
same_set [] k x d h e = absurd (omega arith)
same_set (y ∷ xs) zero x d h e = ap (λ (t : Live PlainSet). t ∷ map live_of xs) e
same_set (y ∷ xs) (suc k) x d h e = ap (λ (ts : List (Live PlainSet)). live_of y ∷ ts) (same_set xs k x d (omega (arith, h)) e)

pub taken_counted : (xs : List Stated) (count k n : ℕ) (x d : Stated) (c : ℕ) → HasGaps xs count → x.here ≡ false → live_of x ≡ live_of (get_or xs k d) → is_number n (slice_get (map live_of xs) k) ≡ true → c ≡ gap (get_or xs k d) →
    HasGaps (set xs k x) (count + (1 - c))
taken_counted xs count k n x d c counted here like is gaps =
    let m = gone_set xs k x d (at_within n k xs is) in
    let z : gap x ≡ 1 = ap (λ (b : Bool). if b then 0 else 1) here in
    let g = counted.gone in
    let most = gap_most (get_or xs k d) in
    record {
      order = subst (λ (ts : List (Live PlainSet)). AreInOrder ts) (sym (same_set xs k x d (at_within n k xs is) like)) counted.order;
      gone = omega (arith, m, z, g, gaps, most);
    }

-- where none is gone, all are live
pub none_gone : (xs : List Stated) → gone_in xs ≡ 0 → live_in xs ≡ map live_of xs
none_gone [] h = refl
none_gone (x ∷ xs) h = by x.here refl (none_gone xs (omega (arith, h)))
  where
    by : (b : Bool) → x.here ≡ b → live_in xs ≡ map live_of xs → live_in (x ∷ xs) ≡ map live_of (x ∷ xs)
    by true e ih = live_one x xs true e ∙ ap (λ (ts : List (Live PlainSet)). live_of x ∷ ts) ih
    by false e ih = (let z : gap x ≡ 1 = ap (λ (b : Bool). if b then 0 else 1) e in absurd (omega (arith, h, z)))

gone_filter : (xs : List Stated) → gone_in (filter (λ s. s.here) xs) ≡ 0
gone_filter [] = refl
gone_filter (x ∷ xs) = by x.here refl (gone_filter xs)
  where
    by : (b : Bool) → x.here ≡ b → gone_in (filter (λ s. s.here) xs) ≡ 0 → gone_in (filter (λ s. s.here) (x ∷ xs)) ≡ 0
    by true e ih = let z : gap x ≡ 0 = ap (λ (b : Bool). if b then 0 else 1) e in ap (λ (b : Bool). gone_in (if b then x ∷ filter (λ s. s.here) xs else filter (λ s. s.here) xs)) e ∙ omega (arith, z, ih)
    by false e ih = ap (λ (b : Bool). gone_in (if b then x ∷ filter (λ s. s.here) xs else filter (λ s. s.here) xs)) e ∙ ih

pub tidy_counted : (xs ys : List Stated) (count : ℕ) → ys ≡ filter (λ s. s.here) xs → HasGaps xs count → HasGaps ys 0
tidy_counted xs ys count e k = record {
  order = subst (λ (zs : List Stated). AreInOrder (map live_of zs)) (sym e) (order_live xs k.order);
  gone = sym (ap gone_in e ∙ gone_filter xs);
}

pub tidy_same : (xs ys : List Stated) → ys ≡ filter (λ s. s.here) xs → live_in ys ≡ live_in xs
tidy_same xs ys e =
    let none : gone_in ys ≡ 0 = ap gone_in e ∙ gone_filter xs in
    none_gone ys none ∙ ap (λ (zs : List Stated). map live_of zs) e

-- where none is gone, all stay
none_filter : (xs : List Stated) → gone_in xs ≡ 0 → filter (λ s. s.here) xs ≡ xs
none_filter [] h = refl
none_filter (x ∷ xs) h = by x.here refl (λ z. none_filter xs z)
  where
    by : (b : Bool) → x.here ≡ b → (gone_in xs ≡ 0 → filter (λ s. s.here) xs ≡ xs) → filter (λ s. s.here) (x ∷ xs) ≡ x ∷ xs
    by true e ih =
        let z : gap x ≡ 0 = ap (λ (b : Bool). if b then 0 else 1) e in
        ap (λ (b : Bool). if b then x ∷ filter (λ s. s.here) xs else filter (λ s. s.here) xs) e ∙ ap (λ (ys : List Stated). x ∷ ys) (ih (omega (arith, h, z)))
    by false e ih = (let z : gap x ≡ 1 = ap (λ (b : Bool). if b then 0 else 1) e in absurd (omega (arith, h, z)))

pub gap_within : (xs : List Stated) (k : ℕ) → is_gap (slice_get xs k) ≡ true → k < length xs
gap_within [] k h = absurd (cc)
gap_within (x ∷ xs) zero h = omega arith
gap_within (x ∷ xs) (suc k) h = let m = gap_within xs k h in omega (arith, m)

gap_one : (x : Stated) → not x.here ≡ true → gap x ≡ 1
gap_one x h = by x.here refl
  where
    by : (b : Bool) → x.here ≡ b → gap x ≡ 1
    by true e = absurd (cc)
    by false e = ap (λ (b : Bool). if b then 0 else 1) e

-- one that is gone is counted
gap_counted : (xs : List Stated) (k : ℕ) → is_gap (slice_get xs k) ≡ true → 1 ≤ gone_in xs
gap_counted [] k h = absurd (cc)
gap_counted (x ∷ xs) zero h = let z : gap x ≡ 1 = gap_one x h in omega (arith, z)
gap_counted (x ∷ xs) (suc k) h = let m = gap_counted xs k h in omega (arith, m)

-- the only one that is gone is taken out
pub one_gap : (xs : List Stated) (k : ℕ) → is_gap (slice_get xs k) ≡ true → gone_in xs ≡ 1 → remove xs k ≡ filter (λ s. s.here) xs
one_gap [] k h e = absurd (cc)
one_gap (x ∷ xs) zero h e = by x.here refl
  where
    z : gap x ≡ 1
    z = gap_one x h

    by : (b : Bool) → x.here ≡ b → xs ≡ filter (λ s. s.here) (x ∷ xs)
    by true g = (let y : gap x ≡ 0 = ap (λ (b : Bool). if b then 0 else 1) g in absurd (omega (arith, y, z)))
    by false g = sym (ap (λ (b : Bool). if b then x ∷ filter (λ s. s.here) xs else filter (λ s. s.here) xs) g ∙ none_filter xs (omega (arith, e, z)))
one_gap (x ∷ xs) (suc k) h e = by x.here refl (λ z. one_gap xs k h z)
  where
    by : (b : Bool) → x.here ≡ b → (gone_in xs ≡ 1 → remove xs k ≡ filter (λ s. s.here) xs) → x ∷ remove xs k ≡ filter (λ s. s.here) (x ∷ xs)
    by true g ih =
        let z : gap x ≡ 0 = ap (λ (b : Bool). if b then 0 else 1) g in
        ap (λ (ys : List Stated). x ∷ ys) (ih (omega (arith, e, z))) ∙ sym (ap (λ (b : Bool). if b then x ∷ filter (λ s. s.here) xs else filter (λ s. s.here) xs) g)
    by false g ih =
        let z : gap x ≡ 1 = ap (λ (b : Bool). if b then 0 else 1) g in
        let m = gap_counted xs k h in absurd (omega (arith, e, z, m))

-- ---- who requests an event

pub requested_one : (e : PlainEvent) (xs : List Stated) → list_any (λ t. t.here && requests e (live_of t)) xs ≡ requested (live_in xs) e
requested_one e [] = refl
requested_one e (x ∷ xs) = by x.here refl (requested_one e xs)
  where
    by : (b : Bool) → x.here ≡ b → list_any (λ t. t.here && requests e (live_of t)) xs ≡ requested (live_in xs) e → list_any (λ t. t.here && requests e (live_of t)) (x ∷ xs) ≡ requested (live_in (x ∷ xs)) e
    by true h ih = ap (λ (b : Bool). (b && requests e (live_of x)) || list_any (λ t. t.here && requests e (live_of t)) xs) h ∙ ap (λ (b : Bool). requests e (live_of x) || b) ih ∙ ap (λ (ts : List (Live PlainSet)). requested ts e) (sym (live_one x xs true h))
    by false h ih = ap (λ (b : Bool). (b && requests e (live_of x)) || list_any (λ t. t.here && requests e (live_of t)) xs) h ∙ ih ∙ ap (λ (ts : List (Live PlainSet)). requested ts e) (sym (live_one x xs false h))
