-- Those alone are asked that an event may touch.
use Rattle.std.proofs.Common.{◌≡◌, ◌⊎◌, inl, inr, ℕ, zero, suc, ◌+◌, ◌-◌, ◌<◌, ◌≤◌, arith, Bool, true, false, not, nat_eq, if◌then◌else◌, List, [], ◌∷◌, ◌++◌, length, map, take, drop, get_or, slice_index, refl, ap, sym, ◌∙◌, subst, append-nil, None, Ok, Err, Result, Vec, IfOk}
use Rattle.std.specs.declared.alloc.Global.{Global}
use Rattle.std.specs.List.Sorted.{IsNonDecreasing}
use Rattle.std.proofs.lemmas.Bool.{cases_lt, eq-eqb, eqb-true, or_cases}
use Rattle.std.proofs.lemmas.List.{map_push, take_all, take_more}
use Rattle.js_data.specs.Event.{PlainEvent}
use Rattle.js_value.specs.Value.{PlainSet}
use Rattle.js_meaning.specs.State.{Ground}
use Rattle.bp_meaning.specs.Membership.{member}
use Rattle.bp_run.specs.Selecting.{Has, Live}
use Rattle.bp_run.specs.Choosing.{touched, reach}
use Rattle.bp_roll.specs.Rolls.{PlainRoll, is_in, is_noted, numbers_at}
use Rattle.bp_roll.proofs.Listing.{in_more}
use Rattle.bp_live.specs.declared.stated.Stated.{Stated}
use Rattle.bp_select.specs.declared.answers.SelectFault.{SelectFault}
use Rattle.bp_select.specs.declared.answers.Reach.{Reach}
use Rattle.bp_select.specs.inner.Touches.{AddsTouch}
use Rattle.bp_select.specs.Answers.{FaultAs}
use Rattle.bp_roll.specs.Feeding.{event_key}
use Rattle.bp_select.specs.Tallies.{Each}
use Rattle.bp_select.specs.inner.Heeding.{IsNoted, Stays, any_key}
use Rattle.bp_live.specs.Lives.{live_of}
use Rattle.bp_select.specs.inner.Parts.{IsPart}
use Rattle.bp_live.specs.Numbers.{place_in}
use Rattle.bp_live.specs.Places.{AreInOrder}
use Rattle.bp_select.proofs.HeedLemmas.{each_at, in_push, in_pushed}
use Rattle.bp_live.proofs.Numbered.{place_own}
use Rattle.bp_select.proofs.PartLemmas.{part_push, part_skip}
use Rattle.bp_select.proofs.TouchLemmas.{Reaches, reaches_step, reaches_fault}

-- ---- places

some_at : {A : Type 0} (xs : List A) (i : ℕ) → i < length xs → (x : A) × (x ≡ get_or xs i x)
some_at [] i low = absurd (omega (arith, low))
some_at (x ∷ xs) zero low = (x, refl)
some_at (x ∷ xs) (suc i) low = let r = some_at xs i (omega (arith, low)) in (r.0, r.1)

pub places_step : (live : List Stated) (numbers : List ℕ) (j number at : ℕ) (old new : List ℕ) → AreInOrder (map live_of live) → j < length numbers → number ≡ slice_index numbers j → at ≡ place_in number (map live_of live) → new ≡ old ++ at ∷ [] →
    ((i : ℕ) (d : Stated) → i < length live → is_in (get_or live i d).number (take j numbers) ≡ true → is_in i old ≡ true) →
    (i : ℕ) (d : Stated) → i < length live → is_in (get_or live i d).number (take (j + 1) numbers) ≡ true → is_in i new ≡ true
places_step live numbers j number at old new order low is place q h i d within w = by (in_more (get_or live i d).number j numbers low w)
  where
    by : (is_in (get_or live i d).number (take j numbers) ≡ true) ⊎ ((get_or live i d).number ≡ slice_index numbers j) → is_in i new ≡ true
    by (inl e) = ap (λ (xs : List ℕ). is_in i xs) q ∙ in_pushed i at old (h i d within e)
    by (inr e) =
        let here : at ≡ i = place ∙ ap (λ (n : ℕ). place_in n (map live_of live)) (is ∙ sym e) ∙ place_own live i d order within in
        ap (λ (xs : List ℕ). is_in i xs) q ∙ subst (λ (k : ℕ). is_in i (old ++ k ∷ []) ≡ true) (sym here) (in_push i old)

-- whoever is not among the places that were found stays
pub found_all : (live : List Stated) (r : PlainRoll) (e : PlainEvent) (some more all : List ℕ) → Each (λ t. IsNoted r t) (map live_of live) →
    ((i : ℕ) (d : Stated) → i < length live → is_in (get_or live i d).number (numbers_at r (event_key e)) ≡ true → is_in i some ≡ true) →
    ((i : ℕ) → is_in i some ≡ true → is_in i more ≡ true) →
    ((i : ℕ) (d : Stated) → i < length live → is_in (get_or live i d).number (numbers_at r any_key) ≡ true → is_in i more ≡ true) →
    ((i : ℕ) → is_in i all ≡ is_in i more) → (i : ℕ) (d : Stated) → i < length live → (is_in i all ≡ true) ⊎ Stays e (live_of (get_or live i d))
found_all live r e some more all noted own still any same i d low = by (noted_at.touched.each e)
  where
    noted_at : IsNoted r (live_of (get_or live i d))
    noted_at = each_at (λ t. IsNoted r t) live i d low noted

    by : (is_noted r any_key (get_or live i d).number ≡ true) ⊎ ((is_noted r (event_key e) (get_or live i d).number ≡ true) ⊎ Stays e (live_of (get_or live i d))) → (is_in i all ≡ true) ⊎ Stays e (live_of (get_or live i d))
    by (inl a) = inl (same i ∙ any i d low a)
    by (inr (inl a)) = inl (same i ∙ still i (own i d low a))
    by (inr (inr s)) = inr s

-- ---- those in between stay

module _ (has : Has PlainSet) (e : PlainEvent) (all : List Stated) (moved interrupted : List ℕ) where
  -- those from here on, up to there, stay
  abbrev pub StayWithin : ℕ → ℕ → Type 0
  StayWithin from to = (i : ℕ) (d : Stated) → from ≤ i → i < to → touched has e (live_of (get_or all i d)) ≡ Ok None

  reaches_one : (i : ℕ) → i < length all → ((d : Stated) → touched has e (live_of (get_or all i d)) ≡ Ok None) → Reaches has e all (drop i all) moved interrupted → Reaches has e all (drop (i + 1) all) moved interrupted
  reaches_one i low h w =
      let x = some_at all i low in
      reaches_step has e all i x.0 None moved interrupted moved interrupted low x.1 (ap (λ (s : Stated). touched has e (live_of s)) x.1 ∙ h x.0) (sym (append-nil moved)) (sym (append-nil interrupted)) w

  reaches_on : (from k : ℕ) → from + k ≤ length all → StayWithin from (from + k) → Reaches has e all (drop from all) moved interrupted → Reaches has e all (drop (from + k) all) moved interrupted
  reaches_on from zero low h w = let q : from ≡ from + 0 = omega arith in subst (λ (j : ℕ). Reaches has e all (drop j all) moved interrupted) q w
  reaches_on from (suc k) low h w =
      let q : (from + k) + 1 ≡ from + suc k = omega arith in
      subst (λ (j : ℕ). Reaches has e all (drop j all) moved interrupted) q
      (reaches_one (from + k) (omega (arith, low)) (λ d. h (from + k) d (omega arith) (omega arith))
      (reaches_on from k (omega (arith, low)) (λ i d a b. h i d a (omega (arith, b))) w))

  pub reaches_skip : (from to : ℕ) → from ≤ to → to ≤ length all → StayWithin from to → Reaches has e all (drop from all) moved interrupted → Reaches has e all (drop to all) moved interrupted
  reaches_skip from to a b h w =
      let k = to - from in
      let q : from + k ≡ to = omega (arith, a) in
      subst (λ (j : ℕ). Reaches has e all (drop j all) moved interrupted) q
      (reaches_on from k (omega (arith, a, b)) (λ i d p r. h i d p (omega (arith, r, a))) w)

-- ---- one place after another

in_index : (i : ℕ) (xs : List ℕ) → is_in i xs ≡ true → (k : ℕ) × (k < length xs) × (slice_index xs k ≡ i)
in_index i [] h = absurd (cc)
in_index i (x ∷ xs) h = by (or_cases (nat_eq i x) (is_in i xs) h) (λ e. in_index i xs e)
  where
    by : (nat_eq i x ≡ true) ⊎ (is_in i xs ≡ true) → (is_in i xs ≡ true → (k : ℕ) × (k < length xs) × (slice_index xs k ≡ i)) → (k : ℕ) × (k < length (x ∷ xs)) × (slice_index (x ∷ xs) k ≡ i)
    by (inl e) rest = (0, omega arith, sym (eqb-true i x e))
    by (inr e) rest = let r = rest e in let low = r.1 in (suc r.0, omega (arith, low), r.2)

-- the first this many places are before `done`, or of nobody
abbrev pub ArePassed : List ℕ → ℕ → ℕ → ℕ → Type 0
ArePassed places j done len = (k : ℕ) → k < j → (slice_index places k < done) ⊎ (len ≤ slice_index places k)

module _ (places : List ℕ) (len : ℕ) where
  pub passed_step : (j done next : ℕ) → done ≤ next → (slice_index places j < next) ⊎ (len ≤ slice_index places j) → ArePassed places j done len → ArePassed places (j + 1) next len
  passed_step j done next a own h k low = by (nat_eq k j) refl
    where
      more : (slice_index places k < done) ⊎ (len ≤ slice_index places k) → (slice_index places k < next) ⊎ (len ≤ slice_index places k)
      more (inl p) = inl (omega (arith, p, a))
      more (inr p) = inr p

      by : (b : Bool) → nat_eq k j ≡ b → (slice_index places k < next) ⊎ (len ≤ slice_index places k)
      by true e = let q : j ≡ k = sym (eqb-true k j e) in subst (λ (m : ℕ). (slice_index places m < next) ⊎ (len ≤ slice_index places m)) q own
      by false e =
          let ne : (k ≡ j) → ⊥ = λ q. (let t : nat_eq k j ≡ true = eq-eqb k j q in cc) in
          more (h k (omega (arith, low, ne)))

  -- no place from here on is before the next one
  pub none_between : (j done to i : ℕ) → IsNonDecreasing places → ArePassed places j done len → (j < length places → to ≤ slice_index places j) → done ≤ i → i < to → i < len → is_in i places ≡ true → ⊥
  none_between j done to i sorted passed next a b c h = by (in_index i places h)
    where
      early : (k : ℕ) → slice_index places k ≡ i → (slice_index places k < done) ⊎ (len ≤ slice_index places k) → ⊥
      early k q (inl p) = omega (arith, p, q, a)
      early k q (inr p) = omega (arith, p, q, c)

      side : (k : ℕ) → k < length places → slice_index places k ≡ i → (k < j) ⊎ (j ≤ k) → ⊥
      side k low q (inl p) = early k q (passed k p)
      side k low q (inr p) =
          let up = sorted j k 0 p low in
          let m = next (omega (arith, p, low)) in
          omega (arith, up, m, q, b)

      by : (k : ℕ) × (k < length places) × (slice_index places k ≡ i) → ⊥
      by r = side r.0 r.1 r.2 (cases_lt r.0 j)

module _ (base : Ground) (budget : ℕ) (e : PlainEvent) (live : List Stated) (places : List ℕ) (sorted : IsNonDecreasing places)
    (others : (i : ℕ) (d : Stated) → i < length live → (is_in i places ≡ true) ⊎ Stays e (live_of (get_or live i d))) where
  pub stay_between : (j done to : ℕ) → to ≤ length live → ArePassed places j done (length live) → (j < length places → to ≤ slice_index places j) → (i : ℕ) (d : Stated) → done ≤ i → i < to →
      touched (member base budget) e (live_of (get_or live i d)) ≡ Ok None
  stay_between j done to within passed next i d a b = by (others i d (omega (arith, b, within)))
    where
      by : (is_in i places ≡ true) ⊎ Stays e (live_of (get_or live i d)) → touched (member base budget) e (live_of (get_or live i d)) ≡ Ok None
      by (inl h) = absurd (none_between places (length live) j done to i sorted passed next a b (omega (arith, b, within)) h)
      by (inr s) = s.each base budget

  -- the one at the next place is asked
  pub asked_next : (j done : ℕ) (moved interrupted : List ℕ) → slice_index places j < length live → done ≤ slice_index places j → ArePassed places j done (length live) →
      Reaches (member base budget) e live (drop done live) moved interrupted → Reaches (member base budget) e live (drop (slice_index places j) live) moved interrupted
  asked_next j done moved interrupted low a passed w =
      reaches_skip (member base budget) e live moved interrupted done (slice_index places j) a (omega (arith, low)) (stay_between j done (slice_index places j) (omega (arith, low)) passed (λ h. omega arith)) w

  -- no place is left
  pub asked_last : (j done : ℕ) (moved interrupted : List ℕ) → length places ≤ j → done ≤ length live → ArePassed places j done (length live) →
      Reaches (member base budget) e live (drop done live) moved interrupted → Reaches (member base budget) e live (drop (length live) live) moved interrupted
  asked_last j done moved interrupted low a passed w =
      reaches_skip (member base budget) e live moved interrupted done (length live) a (omega arith) (stay_between j done (length live) (omega arith) passed (λ h. absurd (omega (arith, low, h)))) w

-- what was added
pub adds_step : (has : Has PlainSet) (e : PlainEvent) (all : List Stated) (i : ℕ) (old new : Reach) → i < length all → ((d : Stated) → AddsTouch (touched has e (live_of (get_or all i d))) old new (Ok tt)) →
    Reaches has e all (drop i all) old.moved.items old.interrupted.items → Reaches has e all (drop (i + 1) all) new.moved.items new.interrupted.items
adds_step has e all i old new low h w =
    let x = some_at all i low in
    let t = h x.0 in
    reaches_step has e all i x.0 t.0 old.moved.items old.interrupted.items new.moved.items new.interrupted.items low x.1 (ap (λ (s : Stated). touched has e (live_of s)) x.1 ∙ t.1) t.2 t.3 w

pub adds_fault : (has : Has PlainSet) (e : PlainEvent) (all : List Stated) (i : ℕ) (old new : Reach) (f : SelectFault) → i < length all → ((d : Stated) → AddsTouch (touched has e (live_of (get_or all i d))) old new (Err f)) →
    Reaches has e all (drop i all) old.moved.items old.interrupted.items → FaultAs (reach has e (map live_of all)) f
adds_fault has e all i old new f low h w =
    let x = some_at all i low in
    reaches_fault has e all i x.0 old.moved.items old.interrupted.items f low x.1 w (subst (λ (s : Stated). FaultAs (touched has e (live_of s)) f) (sym x.1) (h x.0))

-- ---- a part of the b-threads

take_next : (all : List Stated) (i : ℕ) (x : Stated) → i < length all → x ≡ get_or all i x → map live_of (take (i + 1) all) ≡ map live_of (take i all) ++ live_of x ∷ []
take_next all i x low is = ap (λ (xs : List Stated). map live_of xs) (take_more all i x low ∙ ap (λ (y : Stated). take i all ++ y ∷ []) (sym is)) ∙ map_push live_of (take i all) x

pub part_step : (p : Live PlainSet → Bool) (b : Bool) (ss new : List (Live PlainSet)) (all : List Stated) (i : ℕ) (x : Stated) → i < length all → x ≡ get_or all i x → b ≡ not (p (live_of x)) → new ≡ (if b then ss ++ live_of x ∷ [] else ss) →
    IsPart p ss (map live_of (take i all)) → IsPart p new (map live_of (take (i + 1) all))
part_step p b ss new all i x low is e q h =
    subst (λ (ts : List (Live PlainSet)). IsPart p new ts) (sym (take_next all i x low is)) (by b (p (live_of x)) refl e q)
  where
    by : (b c : Bool) → p (live_of x) ≡ c → b ≡ not c → new ≡ (if b then ss ++ live_of x ∷ [] else ss) → IsPart p new (map live_of (take i all) ++ live_of x ∷ [])
    by true c r e q = subst (λ (us : List (Live PlainSet)). IsPart p us (map live_of (take i all) ++ live_of x ∷ [])) (sym q) (part_push p (live_of x) ss (map live_of (take i all)) h)
    by false true r e q = subst (λ (us : List (Live PlainSet)). IsPart p us (map live_of (take i all) ++ live_of x ∷ [])) (sym q) (part_skip p (live_of x) ss (map live_of (take i all)) r h)
    by false false r e q = absurd (cc)

pub part_all : (p : Live PlainSet → Bool) (ss : List (Live PlainSet)) (all : List Stated) (i : ℕ) → length all ≤ i → IsPart p ss (map live_of (take i all)) → IsPart p ss (map live_of all)
part_all p ss all i low h = subst (λ (xs : List Stated). IsPart p ss (map live_of xs)) (take_all i all low) h

module _ (p : Live PlainSet → Bool) (live : List Stated) (ss : List (Live PlainSet)) where
  part_one : (i : ℕ) → i < length live → ((d : Stated) → p (live_of (get_or live i d)) ≡ true) → IsPart p ss (map live_of (take i live)) → IsPart p ss (map live_of (take (i + 1) live))
  part_one i low h w =
      let x = some_at live i low in
      subst (λ (ts : List (Live PlainSet)). IsPart p ss ts) (sym (take_next live i x.0 low x.1)) (part_skip p (live_of x.0) ss (map live_of (take i live)) (ap (λ (s : Stated). p (live_of s)) x.1 ∙ h x.0) w)

  part_on : (from k : ℕ) → from + k ≤ length live → ((i : ℕ) (d : Stated) → from ≤ i → i < from + k → p (live_of (get_or live i d)) ≡ true) → IsPart p ss (map live_of (take from live)) → IsPart p ss (map live_of (take (from + k) live))
  part_on from zero low h w = let q : from ≡ from + 0 = omega arith in subst (λ (j : ℕ). IsPart p ss (map live_of (take j live))) q w
  part_on from (suc k) low h w =
      let q : (from + k) + 1 ≡ from + suc k = omega arith in
      subst (λ (j : ℕ). IsPart p ss (map live_of (take j live))) q
      (part_one (from + k) (omega (arith, low)) (λ d. h (from + k) d (omega arith) (omega arith)) (part_on from k (omega (arith, low)) (λ i d a b. h i d a (omega (arith, b))) w))

  part_to : (from to : ℕ) → from ≤ to → to ≤ length live → ((i : ℕ) (d : Stated) → from ≤ i → i < to → p (live_of (get_or live i d)) ≡ true) → IsPart p ss (map live_of (take from live)) → IsPart p ss (map live_of (take to live))
  part_to from to a b h w =
      let k = to - from in
      let q : from + k ≡ to = omega (arith, a) in
      subst (λ (j : ℕ). IsPart p ss (map live_of (take j live))) q (part_on from k (omega (arith, a, b)) (λ i d c r. h i d c (omega (arith, r, a))) w)

module _ (p : Live PlainSet → Bool) (live : List Stated) (places : List ℕ) (sorted : IsNonDecreasing places)
    (others : (i : ℕ) (d : Stated) → i < length live → (is_in i places ≡ true) ⊎ (p (live_of (get_or live i d)) ≡ true)) where
  left_between : (j done to : ℕ) → to ≤ length live → ArePassed places j done (length live) → (j < length places → to ≤ slice_index places j) → (i : ℕ) (d : Stated) → done ≤ i → i < to → p (live_of (get_or live i d)) ≡ true
  left_between j done to within passed next i d a b = by (others i d (omega (arith, b, within)))
    where
      by : (is_in i places ≡ true) ⊎ (p (live_of (get_or live i d)) ≡ true) → p (live_of (get_or live i d)) ≡ true
      by (inl h) = absurd (none_between places (length live) j done to i sorted passed next a b (omega (arith, b, within)) h)
      by (inr s) = s

  -- the one at the next place is taken
  pub part_next : (j done : ℕ) (ss new : List (Live PlainSet)) (x : Stated) → slice_index places j < length live → done ≤ slice_index places j → x ≡ get_or live (slice_index places j) x → new ≡ ss ++ live_of x ∷ [] →
      ArePassed places j done (length live) → IsPart p ss (map live_of (take done live)) → IsPart p new (map live_of (take (slice_index places j + 1) live))
  part_next j done ss new x low a is q passed w =
      let place = slice_index places j in
      subst (λ (ts : List (Live PlainSet)). IsPart p new ts) (sym (take_next live place x low is))
      (subst (λ (us : List (Live PlainSet)). IsPart p us (map live_of (take place live) ++ live_of x ∷ [])) (sym q)
      (part_push p (live_of x) ss (map live_of (take place live)) (part_to p live ss done place a (omega (arith, low)) (left_between j done place (omega (arith, low)) passed (λ h. omega arith)) w)))

  -- no place is left
  pub part_last : (j done : ℕ) (ss : List (Live PlainSet)) → length places ≤ j → done ≤ length live → ArePassed places j done (length live) → IsPart p ss (map live_of (take done live)) → IsPart p ss (map live_of live)
  part_last j done ss low a passed w =
      part_all p ss live (length live) (omega arith)
      (part_to p live ss done (length live) a (omega arith) (left_between j done (length live) (omega arith) passed (λ h. absurd (omega (arith, low, h)))) w)

-- whoever is not among the places of a key
pub found_at : (p : Live PlainSet → Bool) (live : List Stated) (r : PlainRoll) (key : ℕ) (places : List ℕ) → Each (λ t. (is_noted r key t.number ≡ true) ⊎ (p t ≡ true)) (map live_of live) →
    ((i : ℕ) (d : Stated) → i < length live → is_noted r key (get_or live i d).number ≡ true → is_in i places ≡ true) → (i : ℕ) (d : Stated) → i < length live → (is_in i places ≡ true) ⊎ (p (live_of (get_or live i d)) ≡ true)
found_at p live r key places noted there i d low = by (each_at (λ t. (is_noted r key t.number ≡ true) ⊎ (p t ≡ true)) live i d low noted)
  where
    by : (is_noted r key (get_or live i d).number ≡ true) ⊎ (p (live_of (get_or live i d)) ≡ true) → (is_in i places ≡ true) ⊎ (p (live_of (get_or live i d)) ≡ true)
    by (inl a) = inl (there i d low a)
    by (inr a) = inr a

-- where memory does not run out
pub found_when : {E : Type 0} (r : Result (Vec ℕ Global) E) (live : List Stated) (roll : PlainRoll) (e : PlainEvent) (some more : List ℕ) → Each (λ t. IsNoted roll t) (map live_of live) →
    ((i : ℕ) (d : Stated) → i < length live → is_in (get_or live i d).number (numbers_at roll (event_key e)) ≡ true → is_in i some ≡ true) →
    ((i : ℕ) → is_in i some ≡ true → is_in i more ≡ true) →
    ((i : ℕ) (d : Stated) → i < length live → is_in (get_or live i d).number (numbers_at roll any_key) ≡ true → is_in i more ≡ true) →
    ((i : ℕ) → IfOk r (λ ps. is_in i ps.items ≡ is_in i more)) → IfOk r (λ ps. (i : ℕ) (d : Stated) → i < length live → (is_in i ps.items ≡ true) ⊎ Stays e (live_of (get_or live i d)))
found_when (Ok ps) live roll e some more noted own still any same = found_all live roll e some more ps.items noted own still any same
found_when (Err z) live roll e some more noted own still any same = same 0

pub there_when : {E : Type 0} (r : Result (Vec ℕ Global) E) (live : List Stated) (roll : PlainRoll) (key : ℕ) (some : List ℕ) →
    ((i : ℕ) (d : Stated) → i < length live → is_in (get_or live i d).number (numbers_at roll key) ≡ true → is_in i some ≡ true) →
    ((i : ℕ) → IfOk r (λ ps. is_in i ps.items ≡ is_in i some)) → IfOk r (λ ps. (i : ℕ) (d : Stated) → i < length live → is_noted roll key (get_or live i d).number ≡ true → is_in i ps.items ≡ true)
there_when (Ok ps) live roll key some own same = λ i d low h. same i ∙ own i d low h
there_when (Err z) live roll key some own same = same 0
