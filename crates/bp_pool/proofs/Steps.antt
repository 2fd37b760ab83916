-- Each kind of step keeps the rule of the shared queue.
use Rattle.std.proofs.Common.{◌≡◌, ◌≢◌, ℕ, zero, suc, ◌+◌, ◌-◌, ◌<◌, ◌≤◌, List, [], ◌∷◌, ◌++◌, map, length, set, sym, refl, ap, subst, ⊎_elim, arith}
use Rattle.std.specs.List.{sum_by}
use Rattle.std.proofs.lemmas.List.Sums.{sum_by-cons, sum_by-append, sum_by_push}
use Rattle.std.proofs.lemmas.List.Elements.{All-head, All-tail, All-push, All-nil}
use mathlib.Core.Option.{some, some-injective, some-ne-none}
use lib.ListN.{get_elem?}
use Rattle.crossbeam_queue.specs.Fifo.{Pushes, Pops, Forks, Merges, Learns}
use Rattle.crossbeam_queue.proofs.Lists.{at_set, at_snoc}
use Rattle.js_meaning.specs.State.{Ground}
use Rattle.bp_pool.specs.declared.seat.Seat.{Seat}
use Rattle.bp_pool.specs.declared.rule.Hand.{Hand}
use Rattle.bp_pool.specs.Seats.{HaveOwnPlaces}
use Rattle.bp_pool.specs.Shared.{hand, owner, rest_of, Waits, weigh, weigh_held, Fits, AllFit, Shared, Total}

-- a sum over the views after a change of one of them
pub total_set : (f : Hand → ℕ) (views : List Hand) (port : ℕ) (v w : Hand) → get_elem? views port ≡ some v → sum_by f (set views port w) + f v ≡ sum_by f views + f w
total_set f [] port v w e = absurd (some-ne-none v (sym e))
total_set f (x ∷ xs) zero v w e = let a = sum_by-cons f x xs in let b = sum_by-cons f w xs in let c = ap f (some-injective x v e) in omega arith
total_set f (x ∷ xs) (suc i) v w e = let h = total_set f xs i v w e in let a = sum_by-cons f x xs in let b = sum_by-cons f x (set xs i w) in omega arith

pub at_le : (f : Hand → ℕ) (views : List Hand) (port : ℕ) (v : Hand) → get_elem? views port ≡ some v → f v ≤ sum_by f views
at_le f [] port v e = absurd (some-ne-none v (sym e))
at_le f (x ∷ xs) zero v e = let a = sum_by-cons f x xs in let c = ap f (some-injective x v e) in omega arith
at_le f (x ∷ xs) (suc i) v e = let h = at_le f xs i v e in let a = sum_by-cons f x xs in omega arith

fits_set : (lent : List Seat) (views : List Hand) (port : ℕ) (w : Hand) → Fits lent w → AllFit lent views → AllFit lent (set views port w)
fits_set lent views port w mine all j u e = ⊎_elim (λ (x : (j ≡ port) × (w ≡ u)). subst (Fits lent) x.1 mine) (λ (x : (j ≢ port) × (get_elem? views j ≡ some u)). all j u x.1) (at_set views port j w u e)

fits_snoc : (lent : List Seat) (views : List Hand) (w : Hand) → Fits lent w → AllFit lent views → AllFit lent (views ++ w ∷ [])
fits_snoc lent views w mine all j u e = ⊎_elim (λ (x : get_elem? views j ≡ some u). all j u x) (λ (x : w ≡ u). subst (Fits lent) x mine) (at_snoc views w u j e)

-- a view whose parts are as many as v's, and not none
fits_as : (lent : List Seat) (v : Hand) (held : List ℕ) (n : ℕ) → 0 < v.parts → 0 < n → Fits lent v → Fits lent (hand v.lent held n)
fits_as lent v held n some_part more f = record { same = λ _. f.same some_part; idle = λ none. absurd (omega arith) }

numbers : (h : ℕ → ℕ) (lent : List Seat) → sum_by h (map (λ (j : Seat). j.place) lent) ≡ weigh h lent
numbers h [] = refl
numbers h (x ∷ xs) = let e = numbers h xs in let a = sum_by-cons h x.place (map (λ (j : Seat). j.place) xs) in let b = sum_by-cons (λ (j : Seat). h j.place) x xs in omega arith

-- the owner begins with all entries and all parts
pub begins : (base : Ground) (lent : List Seat) → HaveOwnPlaces lent → Shared base [] (owner lent ∷ [])
begins base lent own = record {
  lent = lent;
  own = own;
  fits = λ j u e. fits_snoc lent [] (owner lent) (record { same = λ _. refl; idle = λ none. absurd (omega arith) }) (λ i t n. absurd (some-ne-none t (sym n))) j u e;
  parts = refl;
  once = λ h. (let e = numbers h lent in omega arith);
  seats = All-nil _;
}

pub takes : (base : Ground) (port : ℕ) (v : Hand) → 0 < v.parts → Pops (Shared base) port v (λ x w. (w ≡ hand v.lent (x.place ∷ v.held) v.parts) × Waits base v.lent x)
takes base port v some_part x items views b at = let w = hand v.lent (x.place ∷ v.held) v.parts in let same = (b.fits port v at).same some_part in (
  w,
  record {
    lent = b.lent;
    own = b.own;
    fits = fits_set b.lent views port w (fits_as b.lent v (x.place ∷ v.held) v.parts some_part some_part (b.fits port v at)) b.fits;
    parts = (let s = total_set (λ u. u.parts) views port v w at in let p = b.parts in omega arith);
    once = λ h. (let s = total_set (weigh_held h) views port v w at in let o = b.once h in
        let a = sum_by-cons (λ (j : Seat). h j.place) x items in let c = sum_by-cons h x.place v.held in omega arith);
    seats = All-tail (Waits base b.lent) x items b.seats;
  },
  (refl, subst (λ l. Waits base l x) (sym same) (All-head (Waits base b.lent) x items b.seats)),
)

-- a push of a job whose entry is the first in hand
pub gives : (base : Ground) (n port : ℕ) (v : Hand) (x : Seat) (rest : List ℕ) → 0 < v.parts → v.held ≡ x.place ∷ rest → Waits base v.lent x → Pushes (Shared base) n port v x (λ w. w ≡ hand v.lent (rest_of v.held) v.parts)
gives base n port v x rest some_part holds job items views room b at =
    let w = hand v.lent (rest_of v.held) v.parts in let same = (b.fits port v at).same some_part in let r : rest_of v.held ≡ rest = ap rest_of holds in (
      w,
      record {
        lent = b.lent;
        own = b.own;
        fits = fits_set b.lent views port w (fits_as b.lent v (rest_of v.held) v.parts some_part some_part (b.fits port v at)) b.fits;
        parts = (let s = total_set (λ u. u.parts) views port v w at in let p = b.parts in omega arith);
        once = λ h. (let s = total_set (weigh_held h) views port v w at in let o = b.once h in
            let a = sum_by_push (λ (j : Seat). h j.place) items x in let c = sum_by-cons h x.place rest in
            let d = ap (sum_by h) holds in let e = ap (sum_by h) r in omega arith);
        seats = All-push (Waits base b.lent) items x b.seats (subst (λ l. Waits base l x) same job);
      },
      refl,
    )

pub forks : (base : Ground) (port : ℕ) (v : Hand) → 1 < v.parts → Forks (Shared base) port v (hand v.lent v.held (v.parts - 1)) (hand v.lent [] 1)
forks base port v more items views b at =
    let l = hand v.lent v.held (v.parts - 1) in let r = hand v.lent [] 1 in let mine = b.fits port v at in let some_part : 0 < v.parts = omega arith in
    let rest_part : 0 < v.parts - 1 = omega arith in record {
      lent = b.lent;
      own = b.own;
      fits = fits_snoc b.lent (set views port l) r (record { same = λ _. mine.same some_part; idle = λ _. refl })
          (fits_set b.lent views port l (fits_as b.lent v v.held (v.parts - 1) some_part rest_part mine) b.fits);
      parts = (let s = total_set (λ u. u.parts) views port v l at in let p = b.parts in let q = sum_by_push (λ (u : Hand). u.parts) (set views port l) r in omega arith);
      once = λ h. (let s = total_set (weigh_held h) views port v l at in let o = b.once h in let q = sum_by_push (weigh_held h) (set views port l) r in omega arith);
      seats = b.seats;
    }

pub merges : (base : Ground) (port : ℕ) (v : Hand) (other : ℕ) (u : Hand) → 0 < v.parts → Merges (Shared base) port v other u (hand v.lent (v.held ++ u.held) (v.parts + u.parts)) (hand [] [] 0)
merges base port v other u some_part items views b at two at' =
    let both = hand v.lent (v.held ++ u.held) (v.parts + u.parts) in let spent = hand [] [] 0 in let vs = set views port both in let mine = b.fits port v at in
    let more : 0 < v.parts + u.parts = omega arith in record {
      lent = b.lent;
      own = b.own;
      fits = fits_set b.lent vs other spent (record { same = λ some'. absurd (omega arith); idle = λ _. refl })
          (fits_set b.lent views port both (fits_as b.lent v (v.held ++ u.held) (v.parts + u.parts) some_part more mine) b.fits);
      parts = (let s = total_set (λ y. y.parts) views port v both at in let t = total_set (λ y. y.parts) vs other u spent at' in let p = b.parts in omega arith);
      once = λ h. (let s = total_set (weigh_held h) views port v both at in let t = total_set (weigh_held h) vs other u spent at' in
          let o = b.once h in let a = sum_by-append h v.held u.held in omega arith);
      seats = b.seats;
    }

ones : {X : Type 0} (xs : List X) → sum_by (λ _. 1) xs ≡ length xs
ones [] = refl
ones {X} (x ∷ xs) = let h = ones xs in let a = sum_by-cons (λ (y : X). 1) x xs in omega arith

-- while an entry is in hand, the queue has room for it
pub has_room : (base : Ground) (port : ℕ) (v : Hand) (n : ℕ) (rest : List ℕ) → 0 < v.parts → v.held ≡ n ∷ rest → Learns (Shared base) port v (λ items. length items < length v.lent)
has_room base port v n rest some_part holds items views b at =
    let same = ap length ((b.fits port v at).same some_part) in let o = b.once (λ _. 1) in let a = ones items in let c = ones b.lent in
    let d = at_le (weigh_held (λ _. 1)) views port v at in let e = ap length holds in let f = ones v.held in omega arith

idle_none : (h : ℕ → ℕ) (lent : List Seat) (views : List Hand) → AllFit lent views → sum_by (λ v. v.parts) views ≡ 0 → sum_by (weigh_held h) views ≡ 0
idle_none h lent [] all e = refl
idle_none h lent (x ∷ xs) all e =
    let a = sum_by-cons (λ (v : Hand). v.parts) x xs in let c = sum_by-cons (weigh_held h) x xs in let none : x.parts ≡ 0 = omega arith in
    let i = ap (sum_by h) ((all 0 x refl).idle none) in let r = idle_none h lent xs (λ j u at. all (suc j) u at) (omega arith) in omega arith

-- whoever has all parts knows all hands
pub totals : (base : Ground) (port : ℕ) (v : Hand) → v.parts ≡ 128 → Learns (Shared base) port v (Total v)
totals base port v all items views b at h =
    let spent = hand [] [] 0 in let some_part : 0 < v.parts = omega arith in let same = ap (weigh h) ((b.fits port v at).same some_part) in let o = b.once h in let p = b.parts in
    let s = total_set (λ y. y.parts) views port v spent at in let t = total_set (weigh_held h) views port v spent at in
    let r = idle_none h b.lent (set views port spent) (fits_set b.lent views port spent (record { same = λ some'. absurd (omega arith); idle = λ _. refl }) b.fits) (omega arith) in
    omega arith
