-- Where the numbers of statements that are in order stand.
use Rattle.std.proofs.Common.{◌≡◌, ℕ, zero, suc, ◌<◌, arith, true, false, List, [], ◌∷◌, length, map, get_or, ap, sym, ◌∙◌, slice_get}
use Rattle.std.proofs.lemmas.Bool.{eqb-true, le-ltb, lt-ltb}
use Rattle.bp_live.specs.declared.stated.Stated.{Stated}
use Rattle.bp_live.specs.Lives.{live_of}
use Rattle.bp_live.specs.Numbers.{place_in, is_number}
use Rattle.bp_live.specs.Places.{AreInOrder}
use Rattle.bp_live.proofs.Leaving.{at_within}
use Rattle.bp_live.proofs.Putting.{above_get, place_of_one}

pub number_at : (n k : ℕ) (xs : List Stated) (d : Stated) → is_number n (slice_get (map live_of xs) k) ≡ true → (get_or xs k d).number ≡ n
number_at n k [] d h = absurd (cc)
number_at n zero (x ∷ xs) d h = eqb-true x.number n h
number_at n (suc k) (x ∷ xs) d h = number_at n k xs d h

pub place_own : (xs : List Stated) (i : ℕ) (d : Stated) → AreInOrder (map live_of xs) → i < length xs → place_in (get_or xs i d).number (map live_of xs) ≡ i
place_own [] i d a low = absurd (omega (arith, low))
place_own (x ∷ xs) zero d a low = place_of_one x.number x xs false (le-ltb x.number (live_of x).number (omega arith))
place_own (x ∷ xs) (suc i) d a low =
    let m = above_get x.number xs i d a.0 (omega (arith, low)) in
    place_of_one (get_or xs i d).number x xs true (lt-ltb x.number (get_or xs i d).number m) ∙ ap suc (place_own xs i d a.1 (omega (arith, low)))

-- where it stands at the place that was guessed
pub guessed : (number guess : ℕ) (live : List Stated) → AreInOrder (map live_of live) → is_number number (slice_get (map live_of live) guess) ≡ true → guess ≡ place_in number (map live_of live)
guessed number guess [] order is = absurd (cc)
guessed number guess (x ∷ xs) order is =
    let low = at_within number guess (x ∷ xs) is in
    sym (place_own (x ∷ xs) guess x order low) ∙ ap (λ (n : ℕ). place_in n (map live_of (x ∷ xs))) (number_at number guess (x ∷ xs) x is)
