-- What is known of an event under block sets, and whether b-threads block it.
use Rattle.std.proofs.Common.{◌≡◌, ℕ, zero, suc, ◌<◌, arith, Bool, true, false, ◌||◌, nat_eq, List, [], ◌∷◌, length, map, get_or, refl, ap, sym, ◌∙◌, subst, Option, Some, None, Ok, Err, IsOk, is_some, if◌then◌else◌}
use Rattle.std.proofs.lemmas.Bool.{eqb-true, eq-eqb, ne_eqb}
use Rattle.std.proofs.Math.Bool.{or-true}
use Rattle.js_data.specs.Event.{PlainEvent}
use Rattle.js_value.specs.Value.{PlainSet}
use Rattle.js_meaning.specs.State.{Ground}
use Rattle.bp_run.specs.Selecting.{Live, Has, Asked, by_number, both, blocked}
use Rattle.bp_meaning.specs.Membership.{Membership, member}
use Rattle.bp_select.specs.EmptySets.{is_empty}
use Rattle.bp_select.specs.Blocks.{AreOf, own_set, block_at}
use Rattle.bp_select.specs.inner.BlockSets.{first_by, known_of}
use Rattle.bp_known.specs.Known.{Sets, IsFree, IsBlockedBy, IsKnown}
use Rattle.bp_live.specs.Places.{AreAbove, AreInOrder}
use Rattle.bp_select.proofs.BlockLemmas.{nothing_in}

none_some : {A : Type 0} {a : A} → None ≡ Some a → ⊥
none_some e = cc

some_one : {A : Type 0} {a b : A} → Some a ≡ Some b → a ≡ b
some_one e = cc

-- ---- block sets of b-threads

pub own_empty : (t : Live PlainSet) → is_empty t.statement.block ≡ true → own_set t ≡ None
own_empty t h = ap (λ (b : Bool). if b then None else Some t.statement.block) h

own_some : (t : Live PlainSet) → is_empty t.statement.block ≡ false → own_set t ≡ Some t.statement.block
own_some t h = ap (λ (b : Bool). if b then None else Some t.statement.block) h

pub block_here : (t : Live PlainSet) (ts : List (Live PlainSet)) (n : ℕ) → t.number ≡ n → block_at (t ∷ ts) n ≡ own_set t
block_here t ts n h = ap (λ (b : Bool). if b then own_set t else block_at ts n) (eq-eqb t.number n h)

pub block_apart : (t : Live PlainSet) (ts : List (Live PlainSet)) (n : ℕ) → (t.number ≡ n → ⊥) → block_at (t ∷ ts) n ≡ block_at ts n
block_apart t ts n h = ap (λ (b : Bool). if b then own_set t else block_at ts n) (ne_eqb t.number n h)

-- numbers that are above are not this one
pub above_block : (a n : ℕ) (ts : List (Live PlainSet)) (s : PlainSet) → AreAbove a ts → block_at ts n ≡ Some s → a < n
above_block a n [] s h k = absurd (none_some k)
above_block a n (t ∷ ts) s h k = by (nat_eq t.number n) refl (λ m. above_block a n ts s h.1 m)
  where
    by : (b : Bool) → nat_eq t.number n ≡ b → (block_at ts n ≡ Some s → a < n) → a < n
    by true e ih = let q : t.number ≡ n = eqb-true t.number n e in let m = h.0 in omega (arith, q, m)
    by false e ih = ih (sym (ap (λ (b : Bool). if b then own_set t else block_at ts n) e) ∙ k)

-- each of the b-threads has its block set among these
abbrev HaveSets : Sets → List (Live PlainSet) → Type 0
HaveSets f [] = Unit {0}
HaveSets f (t ∷ ts) = (f t.number ≡ own_set t) × HaveSets f ts

have_above : (f : Sets) (a : ℕ) (ts : List (Live PlainSet)) → AreInOrder ts → AreAbove a ts → ((n : ℕ) → a < n → f n ≡ block_at ts n) → HaveSets f ts
have_above f a [] o u h = tt
have_above f a (t ∷ ts) o u h = (
  h t.number u.0 ∙ block_here t ts t.number refl,
  have_above f t.number ts o.1 o.0 (λ n low. h n (let m = u.0 in omega (arith, m, low)) ∙ block_apart t ts n (λ q. omega (arith, q, low))),
)

have_sets : (f : Sets) (ts : List (Live PlainSet)) → AreInOrder ts → AreOf ts f → HaveSets f ts
have_sets f [] o h = tt
have_sets f (t ∷ ts) o h = (
  h.each t.number ∙ block_here t ts t.number refl,
  have_above f t.number ts o.1 o.0 (λ n low. h.each n ∙ block_apart t ts n (λ q. omega (arith, q, low))),
)

-- the block set at a place
pub block_index : {A : Type 0} (f : A → Live PlainSet) (xs : List A) (i : ℕ) (d : A) → AreInOrder (map f xs) → i < length xs → block_at (map f xs) (f (get_or xs i d)).number ≡ own_set (f (get_or xs i d))
block_index f [] i d o h = absurd (omega arith)
block_index f (x ∷ xs) zero d o h = block_here (f x) (map f xs) (f x).number refl
block_index {A} f (x ∷ xs) (suc i) d o h =
    block_apart (f x) (map f xs) (f (get_or xs i d)).number (λ q. (let m = above_at (f x).number xs i d o.0 (omega (arith, h)) in omega (arith, m, q)))
    ∙ block_index f xs i d o.1 (omega (arith, h))
  where
    above_at : (a : ℕ) (ys : List A) (j : ℕ) (d : A) → AreAbove a (map f ys) → j < length ys → a < (f (get_or ys j d)).number
    above_at a [] j d u h = absurd (omega arith)
    above_at a (y ∷ ys) zero d u h = u.0
    above_at a (y ∷ ys) (suc j) d u h = above_at a ys j d u.1 (omega (arith, h))

module _ (base : Ground) (budget : ℕ) (e : PlainEvent) where
  abbrev has : Has PlainSet
  has = member base budget

  abbrev ored : Asked Bool → Asked Bool → Asked Bool
  ored x y = both (λ a b. a || b) x y

  of_two : (t : Live PlainSet) (ts : List (Live PlainSet)) (a b : Bool) → has t.statement.block e ≡ Ok a → blocked has ts e ≡ Ok b → blocked has (t ∷ ts) e ≡ Ok (a || b)
  of_two t ts a b h k = rw (h, k) refl

  -- nobody blocks it
  free_in : (f : Sets) (ts : List (Live PlainSet)) → HaveSets f ts → IsFree base budget f e → blocked has ts e ≡ Ok false
  free_in f [] h k = refl
  free_in f (t ∷ ts) h k = of_two t ts false false (by (is_empty t.statement.block) refl) (free_in f ts h.1 k)
    where
      by : (b : Bool) → is_empty t.statement.block ≡ b → has t.statement.block e ≡ Ok false
      by true m = nothing_in base budget t.statement.block e m
      by false m = k.none t.number t.statement.block (h.0 ∙ own_some t m)

  pub free_of_all : (f : Sets) (ts : List (Live PlainSet)) → AreInOrder ts → AreOf ts f → IsFree base budget f e → blocked has ts e ≡ Ok false
  free_of_all f ts o h k = free_in f ts (have_sets f ts o h) k

  -- all tell
  ok_some : (m : Membership) → IsOk m → (b : Bool) × (m ≡ Ok b)
  ok_some (Ok b) h = (b, refl)
  ok_some (Err z) h = absurd (cc)

  tells_one : (f : Sets) (t : Live PlainSet) → f t.number ≡ own_set t → ((i : ℕ) (s : PlainSet) → f i ≡ Some s → IsOk (has s e)) → (b : Bool) × (has t.statement.block e ≡ Ok b)
  tells_one f t h k = by (is_empty t.statement.block) refl
    where
      by : (b : Bool) → is_empty t.statement.block ≡ b → (c : Bool) × (has t.statement.block e ≡ Ok c)
      by true m = (false, nothing_in base budget t.statement.block e m)
      by false m = ok_some (has t.statement.block e) (k t.number t.statement.block (h ∙ own_some t m))

  tells_all : (f : Sets) (ts : List (Live PlainSet)) → HaveSets f ts → ((i : ℕ) (s : PlainSet) → f i ≡ Some s → IsOk (has s e)) → (b : Bool) × (blocked has ts e ≡ Ok b)
  tells_all f [] h k = (false, refl)
  tells_all f (t ∷ ts) h k =
      let x = tells_one f t h.0 k in
      let y = tells_all f ts h.1 k in
      (x.0 || y.0, of_two t ts x.0 y.0 x.1 y.1)

  -- one of them has it
  blocked_in : (f : Sets) (ts : List (Live PlainSet)) (n : ℕ) (s : PlainSet) → HaveSets f ts → ((i : ℕ) (s : PlainSet) → f i ≡ Some s → IsOk (has s e)) → block_at ts n ≡ Some s → has s e ≡ Ok true → blocked has ts e ≡ Ok true
  blocked_in f [] n s h k at m = absurd (none_some at)
  blocked_in f (t ∷ ts) n s h k at m = by (nat_eq t.number n) refl (λ q. blocked_in f ts n s h.1 k q m)
    where
      mine : own_set t ≡ Some s → has t.statement.block e ≡ Ok true
      mine q = by_empty (is_empty t.statement.block) refl
        where
          by_empty : (b : Bool) → is_empty t.statement.block ≡ b → has t.statement.block e ≡ Ok true
          by_empty true w = absurd (none_some (sym (own_empty t w) ∙ q))
          by_empty false w = ap (λ (r : PlainSet). has r e) (some_one (sym (own_some t w) ∙ q)) ∙ m

      by : (b : Bool) → nat_eq t.number n ≡ b → (block_at ts n ≡ Some s → blocked has ts e ≡ Ok true) → blocked has (t ∷ ts) e ≡ Ok true
      by true w ih =
          let y = tells_all f ts h.1 k in
          of_two t ts true y.0 (mine (sym (ap (λ (b : Bool). if b then own_set t else block_at ts n) w) ∙ at)) y.1
      by false w ih =
          let x = tells_one f t h.0 k in
          of_two t ts x.0 true x.1 (ih (sym (ap (λ (b : Bool). if b then own_set t else block_at ts n) w) ∙ at))
          ∙ ap (λ (b : Bool). Ok b) (or-true x.0)

  pub blocked_by_one : (f : Sets) (ts : List (Live PlainSet)) (n : ℕ) → AreInOrder ts → AreOf ts f → IsBlockedBy base budget f e n → blocked has ts e ≡ Ok true
  blocked_by_one f ts n o h k = blocked_in f ts n k.set (have_sets f ts o h) k.tell (sym (h.each n) ∙ k.there) k.has

  -- ---- what was asked of all is known

  first_ok : (t : Live PlainSet) (ts : List (Live PlainSet)) (b : Bool) → blocked has (t ∷ ts) e ≡ Ok b → (a c : Bool) × (has t.statement.block e ≡ Ok a) × (blocked has ts e ≡ Ok c) × (b ≡ (a || c))
  first_ok t ts b h = by (has t.statement.block e) (blocked has ts e) refl refl h
    where
      by : (x : Membership) (y : Asked Bool) → has t.statement.block e ≡ x → blocked has ts e ≡ y → ored (by_number t.number x) y ≡ Ok b → (a c : Bool) × (has t.statement.block e ≡ Ok a) × (blocked has ts e ≡ Ok c) × (b ≡ (a || c))
      by (Ok a) (Ok c) p q m = (a, c, p, q, (let w : b ≡ (a || c) = cc in w))
      by (Ok a) (Err z) p q m = absurd (cc)
      by (Err z) (Ok c) p q m = absurd (cc)
      by (Err z) (Err w) p q m = absurd (cc)

  tell_from : (ts : List (Live PlainSet)) (b : Bool) → blocked has ts e ≡ Ok b → (n : ℕ) (s : PlainSet) → block_at ts n ≡ Some s → (a : Bool) × (has s e ≡ Ok a) × (b ≡ (a || b))
  tell_from [] b h n s at = absurd (none_some at)
  tell_from (t ∷ ts) b h n s at = by (nat_eq t.number n) refl (first_ok t ts b h) (λ d q m. tell_from ts d q n s m)
    where
      or_first : (a c : Bool) → (a || c) ≡ (a || (a || c))
      or_first true c = refl
      or_first false c = refl

      or_last : (a c d : Bool) → c ≡ (d || c) → (a || c) ≡ (d || (a || c))
      or_last true c true h = refl
      or_last true c false h = refl
      or_last false c d h = h

      mine : (a : Bool) → own_set t ≡ Some s → has t.statement.block e ≡ Ok a → has s e ≡ Ok a
      mine a q m = by_empty (is_empty t.statement.block) refl
        where
          by_empty : (c : Bool) → is_empty t.statement.block ≡ c → has s e ≡ Ok a
          by_empty true z = absurd (none_some (sym (own_empty t z) ∙ q))
          by_empty false z = ap (λ (r : PlainSet). has r e) (sym (some_one (sym (own_some t z) ∙ q))) ∙ m

      by : (w : Bool) → nat_eq t.number n ≡ w → (a c : Bool) × (has t.statement.block e ≡ Ok a) × (blocked has ts e ≡ Ok c) × (b ≡ (a || c)) →
          ((d : Bool) → blocked has ts e ≡ Ok d → block_at ts n ≡ Some s → (a : Bool) × (has s e ≡ Ok a) × (d ≡ (a || d))) → (a : Bool) × (has s e ≡ Ok a) × (b ≡ (a || b))
      by true w x ih =
          let own : own_set t ≡ Some s = sym (ap (λ (b : Bool). if b then own_set t else block_at ts n) w) ∙ at in
          (x.0, mine x.0 own x.2, x.4 ∙ or_first x.0 x.1 ∙ ap (λ (r : Bool). x.0 || r) (sym x.4))
      by false w x ih =
          let y = ih x.1 x.3 (sym (ap (λ (b : Bool). if b then own_set t else block_at ts n) w) ∙ at) in
          (y.0, y.1, x.4 ∙ or_last x.0 x.1 y.0 y.2 ∙ ap (λ (r : Bool). y.0 || r) (sym x.4))

  false_or : (a : Bool) → false ≡ (a || false) → a ≡ false
  false_or true h = sym h
  false_or false h = refl

  pub known_free : (f : Sets) (ts : List (Live PlainSet)) → AreOf ts f → blocked has ts e ≡ Ok false → IsFree base budget f e
  known_free f ts k h = record {
    none = λ i s at.
        let y = tell_from ts false h i s (sym (k.each i) ∙ at) in
        y.1 ∙ ap (λ (b : Bool). Ok b) (false_or y.0 y.2);
  }

  -- one that has it
  abbrev pub Has_it : List (Live PlainSet) → ℕ → Type 0
  Has_it ts n = (s : PlainSet) × (block_at ts n ≡ Some s) × (has s e ≡ Ok true)

  pub known_blocked : (f : Sets) (ts : List (Live PlainSet)) (n : ℕ) → AreOf ts f → blocked has ts e ≡ Ok true → Has_it ts n → IsBlockedBy base budget f e n
  known_blocked f ts n k h w = record {
    tell = λ i s at.
        let y = tell_from ts true h i s (sym (k.each i) ∙ at) in
        subst (λ (x : Membership). IsOk x) (sym y.1) refl;
    set = w.0;
    there = k.each n ∙ w.1;
    has = w.2;
  }

  asked_is : (n : ℕ) (x : Membership) (b : Bool) → by_number n x ≡ Ok b → x ≡ Ok b
  asked_is n (Ok a) b h = (let q : a ≡ b = cc in ap (λ (r : Bool). Ok r) q)
  asked_is n (Err z) b h = absurd (cc)

  pub has_it : {A : Type 0} (f : A → Live PlainSet) (xs : List A) (i : ℕ) (x : A) → AreInOrder (map f xs) → i < length xs → x ≡ get_or xs i x → by_number (f x).number (has (f x).statement.block e) ≡ Ok true → Has_it (map f xs) (f x).number
  has_it {A} f xs i x o low at h = by (is_empty (f x).statement.block) refl
    where
      yes : has (f x).statement.block e ≡ Ok true
      yes = asked_is (f x).number (has (f x).statement.block e) true h

      own : block_at (map f xs) (f x).number ≡ own_set (f x)
      own = subst (λ (y : A). block_at (map f xs) (f y).number ≡ own_set (f y)) (sym at) (block_index f xs i x o low)

      by : (b : Bool) → is_empty (f x).statement.block ≡ b → Has_it (map f xs) (f x).number
      by true m = absurd (no_yes (sym (nothing_in base budget (f x).statement.block e m) ∙ yes))
        where
          no_yes : (let no : Membership = Ok false in no ≡ Ok true) → ⊥
          no_yes q = cc
      by false m = ((f x).statement.block, own ∙ own_some (f x) m, yes)

  -- ---- who has it, in a loop

  pub witness_next : (ts : List (Live PlainSet)) (by : Option ℕ) (here : Bool) (number : ℕ) → ((n : ℕ) → by ≡ Some n → Has_it ts n) → (here ≡ true → Has_it ts number) →
      (n : ℕ) → first_by by here number ≡ Some n → Has_it ts n
  witness_next ts (Some m) here number old mine n h = old n h
  witness_next ts None true number old mine n h = subst (Has_it ts) (some_one h) (mine refl)
  witness_next ts None false number old mine n h = absurd (none_some h)

  pub nobody : (ts : List (Live PlainSet)) (n : ℕ) → None ≡ Some n → Has_it ts n
  nobody ts n h = absurd (none_some h)

  pub known_told : (f : Sets) (ts : List (Live PlainSet)) (by : Option ℕ) → AreOf ts f → blocked has ts e ≡ Ok (is_some by) → ((n : ℕ) → by ≡ Some n → Has_it ts n) → IsKnown base budget f e (known_of by)
  known_told f ts None k h w = known_free f ts k h
  known_told f ts (Some n) k h w = known_blocked f ts n k h (w n refl)

pub first_by_some : (by : Option ℕ) (here : Bool) (n : ℕ) → is_some (first_by by here n) ≡ (is_some by || here)
first_by_some (Some m) here n = refl
first_by_some None true n = refl
first_by_some None false n = refl
