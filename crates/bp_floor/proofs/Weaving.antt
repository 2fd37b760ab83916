-- Two rising lists of numbers are woven into the touches that they were taken from.
use Rattle.std.proofs.Common.{◌≡◌, ℕ, zero, suc, ◌+◌, ◌<◌, true, false, List, [], ◌∷◌, ◌++◌, length, map, drop, refl, sym, ap, ◌∙◌, arith, append_assoc, Option, Some, None, slice_get, nat_lt, add-one}
use Rattle.std.specs.List.{filter_map}
use Rattle.std.proofs.lemmas.Bool.{lt-ltb, le-ltb}
use Rattle.std.proofs.lemmas.Option.{none-some, same_Some}
use Rattle.js_data.proofs.Shared.{drop_next}
use Rattle.bp_run.specs.Choosing.{Touched}
use Rattle.bp_run.specs.Choosing.Touched.{Moves, Interrupts}
use Rattle.bp_run.specs.Numbers.{number_in}
use Rattle.bp_select.specs.declared.answers.Reach.{Reach}
use Rattle.bp_select.specs.Answers.{move_of, interrupt_of, IsReach}
use Rattle.bp_floor.specs.inner.Kept.{AreFrom, Rises}
use Rattle.bp_floor.specs.inner.Transition.{first_touch}

get_drop : (m : ℕ) (xs : List ℕ) → slice_get xs m ≡ slice_get (drop m xs) 0
get_drop zero xs = refl
get_drop (suc m) [] = refl
get_drop (suc m) (x ∷ xs) = get_drop m xs

pub from_moves : (n : ℕ) (xs : List Touched) → AreFrom n (map number_in xs) → AreFrom n (filter_map move_of xs)
from_moves n [] h = tt
from_moves n (Moves i ∷ xs) h = (h.0, from_moves n xs h.1)
from_moves n (Interrupts i ∷ xs) h = from_moves n xs h.1

from_interrupts : (n : ℕ) (xs : List Touched) → AreFrom n (map number_in xs) → AreFrom n (filter_map interrupt_of xs)
from_interrupts n [] h = tt
from_interrupts n (Moves i ∷ xs) h = from_interrupts n xs h.1
from_interrupts n (Interrupts i ∷ xs) h = (h.0, from_interrupts n xs h.1)

first_moves : (k : ℕ) (ns : List ℕ) → AreFrom (suc k) ns → first_touch (Some k) (slice_get ns 0) ≡ Some (Moves k)
first_moves k [] h = refl
first_moves k (n ∷ ns) h = let a = h.0 in let e : nat_lt k n ≡ true = lt-ltb k n (omega (arith, a)) in rw e refl

first_interrupts : (k : ℕ) (ns : List ℕ) → AreFrom (suc k) ns → first_touch (slice_get ns 0) (Some k) ≡ Some (Interrupts k)
first_interrupts k [] h = refl
first_interrupts k (n ∷ ns) h = let a = h.0 in let e : nat_lt n k ≡ false = le-ltb n k (omega (arith, a)) in rw e refl

-- the first of those that are left comes next
first_left : (x : Touched) (xs : List Touched) → AreFrom (suc (number_in x)) (map number_in xs) → first_touch (slice_get (filter_map move_of (x ∷ xs)) 0) (slice_get (filter_map interrupt_of (x ∷ xs)) 0) ≡ Some x
first_left (Moves k) xs h = first_moves k (filter_map interrupt_of xs) (from_interrupts (suc k) xs h)
first_left (Interrupts k) xs h = first_interrupts k (filter_map move_of xs) (from_moves (suc k) xs h)

as_many : (xs : List Touched) → length (filter_map move_of xs) + length (filter_map interrupt_of xs) ≡ length xs
as_many [] = refl
as_many (Moves i ∷ xs) = let r = as_many xs in omega (arith, r)
as_many (Interrupts i ∷ xs) = let r = as_many xs in omega (arith, r)

-- Where weaving stands: this many of both lists are done, and these are left.
pub record Weave (moved interrupted : List ℕ) (m i n : ℕ) (done xs : List Touched) : Type 0 where
  pub rest : List Touched
  pub all : done ++ rest ≡ xs
  pub counted : n + length rest ≡ length moved + length interrupted
  pub rises : Rises (map number_in rest)
  pub moves : drop m moved ≡ filter_map move_of rest
  pub stops : drop i interrupted ≡ filter_map interrupt_of rest

-- whatever touches the lists were taken from
pub record Weaves (reach : Reach) (m i n : ℕ) (done : List Touched) : Type 0 where
  pub weaves : (xs : List Touched) → IsReach xs reach → Rises (map number_in xs) → Weave reach.moved.items reach.interrupted.items m i n done xs

pub weaves_start : (reach : Reach) → Weaves reach 0 0 0 []
weaves_start reach = record {
  weaves = λ xs h r. record {
    rest = xs;
    all = refl;
    counted = let a = as_many xs in let b = ap (λ (ns : List ℕ). length ns) h.moved in let c = ap (λ (ns : List ℕ). length ns) h.interrupted in omega (arith, a, b, c);
    rises = r;
    moves = h.moved;
    stops = h.interrupted;
  };
}

next_is : (moved interrupted : List ℕ) (m i : ℕ) (x : Touched) (rest : List Touched) → Rises (map number_in (x ∷ rest)) → drop m moved ≡ filter_map move_of (x ∷ rest) → drop i interrupted ≡ filter_map interrupt_of (x ∷ rest) →
    first_touch (slice_get moved m) (slice_get interrupted i) ≡ Some x
next_is moved interrupted m i x rest r a b =
    ap (λ (o : Option ℕ). first_touch o (slice_get interrupted i)) (get_drop m moved ∙ ap (λ (ns : List ℕ). slice_get ns 0) a)
    ∙ ap (λ (o : Option ℕ). first_touch (slice_get (filter_map move_of (x ∷ rest)) 0) o) (get_drop i interrupted ∙ ap (λ (ns : List ℕ). slice_get ns 0) b)
    ∙ first_left x rest r.0

weave_moves : (moved interrupted : List ℕ) (m i n k : ℕ) (done xs : List Touched) → n < length moved + length interrupted → first_touch (slice_get moved m) (slice_get interrupted i) ≡ Some (Moves k) →
    (rest : List Touched) → done ++ rest ≡ xs → n + length rest ≡ length moved + length interrupted → Rises (map number_in rest) → drop m moved ≡ filter_map move_of rest → drop i interrupted ≡ filter_map interrupt_of rest →
    Weave moved interrupted (suc m) i (suc n) (done ++ Moves k ∷ []) xs
weave_moves moved interrupted m i n k done xs low f [] all c r a b = absurd (omega (arith, low, c))
weave_moves moved interrupted m i n k done xs low f (x ∷ rest) all c r a b =
    let e : x ≡ Moves k = same_Some x (Moves k) (sym (next_is moved interrupted m i x rest r a b) ∙ f) in
    record {
      rest = rest;
      all = append_assoc done (Moves k ∷ []) rest ∙ ap (λ (y : Touched). done ++ y ∷ rest) (sym e) ∙ all;
      counted = omega (arith, c);
      rises = r.1;
      moves = rw add-one at (drop_next moved m k (filter_map move_of rest) (a ∙ ap (λ (y : Touched). filter_map move_of (y ∷ rest)) e)).2;
      stops = b ∙ ap (λ (y : Touched). filter_map interrupt_of (y ∷ rest)) e;
    }

weave_interrupts : (moved interrupted : List ℕ) (m i n k : ℕ) (done xs : List Touched) → n < length moved + length interrupted → first_touch (slice_get moved m) (slice_get interrupted i) ≡ Some (Interrupts k) →
    (rest : List Touched) → done ++ rest ≡ xs → n + length rest ≡ length moved + length interrupted → Rises (map number_in rest) → drop m moved ≡ filter_map move_of rest → drop i interrupted ≡ filter_map interrupt_of rest →
    Weave moved interrupted m (suc i) (suc n) (done ++ Interrupts k ∷ []) xs
weave_interrupts moved interrupted m i n k done xs low f [] all c r a b = absurd (omega (arith, low, c))
weave_interrupts moved interrupted m i n k done xs low f (x ∷ rest) all c r a b =
    let e : x ≡ Interrupts k = same_Some x (Interrupts k) (sym (next_is moved interrupted m i x rest r a b) ∙ f) in
    record {
      rest = rest;
      all = append_assoc done (Interrupts k ∷ []) rest ∙ ap (λ (y : Touched). done ++ y ∷ rest) (sym e) ∙ all;
      counted = omega (arith, c);
      rises = r.1;
      moves = a ∙ ap (λ (y : Touched). filter_map move_of (y ∷ rest)) e;
      stops = rw add-one at (drop_next interrupted i k (filter_map interrupt_of rest) (b ∙ ap (λ (y : Touched). filter_map interrupt_of (y ∷ rest)) e)).2;
    }

weave_ends : (moved interrupted : List ℕ) (m i n : ℕ) → n < length moved + length interrupted → first_touch (slice_get moved m) (slice_get interrupted i) ≡ None →
    (rest : List Touched) → n + length rest ≡ length moved + length interrupted → Rises (map number_in rest) → drop m moved ≡ filter_map move_of rest → drop i interrupted ≡ filter_map interrupt_of rest → ⊥
weave_ends moved interrupted m i n low f [] c r a b = omega (arith, low, c)
weave_ends moved interrupted m i n low f (x ∷ rest) c r a b = none-some x (sym f ∙ next_is moved interrupted m i x rest r a b)

pub weaves_moves : (reach : Reach) (m i n k : ℕ) (done : List Touched) → Weaves reach m i n done → n < length reach.moved.items + length reach.interrupted.items →
    first_touch (slice_get reach.moved.items m) (slice_get reach.interrupted.items i) ≡ Some (Moves k) → Weaves reach (suc m) i (suc n) (done ++ Moves k ∷ [])
weaves_moves reach m i n k done w low f = record {
  weaves = λ xs h r.
      let x = w.weaves xs h r in
      weave_moves reach.moved.items reach.interrupted.items m i n k done xs low f x.rest x.all x.counted x.rises x.moves x.stops;
}

pub weaves_interrupts : (reach : Reach) (m i n k : ℕ) (done : List Touched) → Weaves reach m i n done → n < length reach.moved.items + length reach.interrupted.items →
    first_touch (slice_get reach.moved.items m) (slice_get reach.interrupted.items i) ≡ Some (Interrupts k) → Weaves reach m (suc i) (suc n) (done ++ Interrupts k ∷ [])
weaves_interrupts reach m i n k done w low f = record {
  weaves = λ xs h r.
      let x = w.weaves xs h r in
      weave_interrupts reach.moved.items reach.interrupted.items m i n k done xs low f x.rest x.all x.counted x.rises x.moves x.stops;
}

-- something is left, as long as not all were counted
pub weaves_none : (reach : Reach) (m i n : ℕ) (done : List Touched) → Weaves reach m i n done → n < length reach.moved.items + length reach.interrupted.items →
    first_touch (slice_get reach.moved.items m) (slice_get reach.interrupted.items i) ≡ None → Weaves reach m i (suc n) done
weaves_none reach m i n done w low f = record {
  weaves = λ xs h r.
      let x = w.weaves xs h r in
      absurd (weave_ends reach.moved.items reach.interrupted.items m i n low f x.rest x.counted x.rises x.moves x.stops);
}
