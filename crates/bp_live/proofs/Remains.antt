-- What remains under a strategy.
use Rattle.std.proofs.Common.{◌≡◌, ℕ, ◌+◌, ◌<◌, ◌≤◌, arith, Bool, true, false, not, ◌&&◌, leb, ltb, List, length, map, drop, get_or, refl, ap, sym, ◌∙◌, cond, if◌then◌else◌, Option, Some, None}
use Rattle.std.specs.Prelude.{ℤ, pos, negsuc, int_le}
use Rattle.std.specs.Int.{int_max}
use Rattle.std.specs.List.{list_all}
use Rattle.std.proofs.lemmas.List.{drop_all}
use Rattle.js_data.specs.Event.{PlainEvent}
use Rattle.js_data.proofs.Shared.{drop_is}
use Rattle.js_value.specs.Value.{PlainSet}
use Rattle.bp_run.specs.Selecting.{Live}
use Rattle.bp_run.specs.Choosing.{greater, priority_of, at_most}
use Rattle.bp_run.proofs.Chosen.{int_total, int_trans}

-- ---- the order of priorities

-- what fails below a smaller one fails
int_falls : (a b c : ℤ) (x : Bool) → int_le a b ≡ true → int_le a c ≡ false → int_le b c ≡ x → x ≡ false
int_falls a b c true h k m = let t = int_trans a b c h m in absurd (cc)
int_falls a b c false h k m = refl

most_at : (a b c : ℤ) (x y z : Bool) → int_le a b ≡ x → int_le a c ≡ y → int_le b c ≡ z → at_most (if x then Some b else Some a) (Some c) ≡ (y && z)
most_at a b c true true z h k m = m
most_at a b c true false z h k m = m ∙ int_falls a b c z h k m
most_at a b c false true z h k m = k ∙ sym (sym m ∙ int_trans b a c (int_total a b h) k)
most_at a b c false false z h k m = k

and_true : (b : Bool) → b ≡ (b && true)
and_true true = refl
and_true false = refl

-- the greater of two is at most what both are
at_most_greater : (a : ℤ) (b q : Option ℤ) → at_most (greater a b) q ≡ (at_most (Some a) q && at_most b q)
at_most_greater a None None = refl
at_most_greater a None (Some c) = and_true (int_le a c)
at_most_greater a (Some b) None = either (int_le a b)
  where
    either : (x : Bool) → at_most (if x then Some b else Some a) None ≡ false
    either true = refl
    either false = refl
at_most_greater a (Some b) (Some c) = most_at a b c (int_le a b) (int_le a c) (int_le b c) refl refl refl

-- ---- the greatest, one after another

flip : (a b : ℕ) → ltb b a ≡ not (leb a b)
flip a b = grind arith

cond_not : {A : Type 0} (x : Bool) (a b : A) → cond (not x) a b ≡ (if x then b else a)
cond_not true a b = refl
cond_not false a b = refl

max_is : (a b : ℤ) → int_max a b ≡ (if int_le a b then b else a)
max_is (pos a) (pos b) = ap (λ (x : Bool). cond x (pos a) (pos b)) (flip a b) ∙ cond_not (leb a b) (pos a) (pos b)
max_is (pos a) (negsuc b) = refl
max_is (negsuc a) (pos b) = refl
max_is (negsuc a) (negsuc b) = ap (λ (x : Bool). cond x (negsuc a) (negsuc b)) (flip b a) ∙ cond_not (leb b a) (negsuc a) (negsuc b)

above_at : (a b c : ℤ) (x y z w : Bool) → int_le a b ≡ x → int_le b c ≡ y → int_le a c ≡ z →
    int_le (if x then b else a) c ≡ w → (if int_le a (if y then c else b) then (if y then c else b) else a) ≡ (if w then c else (if x then b else a))
above_at a b c true true z w h k m n =
    let t = int_trans a b c h k in
    let e : w ≡ true = sym n ∙ k in
    rw (t, e) refl
above_at a b c true false z w h k m n = let e : w ≡ false = sym n ∙ k in rw (h, e) refl
above_at a b c false true true w h k m n = let e : w ≡ true = sym n ∙ m in rw (m, e) refl
above_at a b c false true false w h k m n = let e : w ≡ false = sym n ∙ m in rw (m, e) refl
above_at a b c false false z w h k m n =
    let f : z ≡ false = int_falls b a c z (int_total a b h) k m in
    let e : w ≡ false = sym n ∙ m ∙ f in
    rw (h, e) refl

max_twice : (a b c : ℤ) → int_max a (int_max b c) ≡ int_max (int_max a b) c
max_twice a b c =
    ap (λ (z : ℤ). int_max a z) (max_is b c) ∙ max_is a (if int_le b c then c else b)
    ∙ above_at a b c (int_le a b) (int_le b c) (int_le a c) (int_le (if int_le a b then b else a) c) refl refl refl refl
    ∙ sym (max_is (if int_le a b then b else a) c) ∙ sym (ap (λ (z : ℤ). int_max z c) (max_is a b))

-- the greater one; none is below all
abbrev pub upper : Option ℤ → Option ℤ → Option ℤ
upper None b = b
upper (Some a) None = Some a
upper (Some a) (Some b) = Some (int_max a b)

pub upper_twice : (a b c : Option ℤ) → upper a (upper b c) ≡ upper (upper a b) c
upper_twice None b c = refl
upper_twice (Some a) None c = refl
upper_twice (Some a) (Some b) None = refl
upper_twice (Some a) (Some b) (Some c) = ap (λ (x : ℤ). Some x) (max_twice a b c)

pub max_self : (p : ℤ) → int_max p p ≡ p
max_self p = max_is p p ∙ same (int_le p p)
  where
    same : (b : Bool) → (if b then p else p) ≡ p
    same true = refl
    same false = refl

greater_at : (a b : ℤ) (x : Bool) → (if x then Some b else Some a) ≡ Some (if x then b else a)
greater_at a b true = refl
greater_at a b false = refl

greater_is : (a : ℤ) (b : Option ℤ) → greater a b ≡ upper (Some a) b
greater_is a None = refl
greater_is a (Some b) = greater_at a b (int_le a b) ∙ ap (λ (x : ℤ). Some x) (sym (max_is a b))

pub priority_at : (b : Bool) (a : ℤ) (rest : Option ℤ) → (if b then greater a rest else rest) ≡ upper (if b then Some a else None) rest
priority_at true a rest = greater_is a rest
priority_at false a rest = refl

pub upper_none : (x : Option ℤ) → upper x None ≡ x
upper_none None = refl
upper_none (Some a) = refl

-- ---- the greatest of candidates

and_swap : (a b c : Bool) → ((a && b) && c) ≡ (b && (a && c))
and_swap true b c = refl
and_swap false true c = refl
and_swap false false c = refl

module _ {A : Type 0} (f : A → PlainEvent) (ts : List (Live PlainSet)) (all : List A) (i : ℕ) (q : Option ℤ) (whole : Bool) where
  abbrev are_most : List A → Bool
  are_most xs = list_all (λ e. at_most (priority_of ts e) q) (map f xs)

  pub top_step : (x : A) (old new : Option ℤ) (p : ℤ) → i < length all → x ≡ get_or all i x → priority_of ts (f x) ≡ Some p → new ≡ greater p old →
      (at_most old q && are_most (drop i all)) ≡ whole → (at_most new q && are_most (drop (i + 1) all)) ≡ whole
  top_step x old new p h k m n w =
      let rest = are_most (drop (i + 1) all) in
      ap (λ (o : Option ℤ). at_most o q && rest) n ∙ ap (λ (b : Bool). b && rest) (at_most_greater p old q) ∙ and_swap (at_most (Some p) q) (at_most old q) rest
      ∙ ap (λ (o : Option ℤ). at_most old q && (at_most o q && rest)) (sym m)
      ∙ ap (λ (xs : List A). at_most old q && are_most xs) (sym (drop_is all i x h k)) ∙ w

  pub top_last : (top : Option ℤ) → length all ≤ i → (at_most top q && are_most (drop i all)) ≡ whole → at_most top q ≡ whole
  top_last top h w = and_true (at_most top q) ∙ sym (ap (λ (xs : List A). at_most top q && are_most xs) (drop_all i all h)) ∙ w
