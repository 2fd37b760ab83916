-- What is selected is requested by some or waits in the queue, and is blocked by none; and something is
-- chosen wherever something can be.
use Rattle.std.proofs.Common.{◌≡◌, ℕ, zero, suc, ◌+◌, ◌<◌, ◌%◌, Bool, true, false, not, ◌&&◌, ◌||◌, List, [], ◌∷◌, length, refl, sym, ap, ◌∙◌, subst, arith, Option, Some, None, Ok, Err, if◌then◌else◌, filter, find, flat_map, cond, slice_get, option_map, ◌⊎◌, inl, inr}
use Rattle.std.specs.Prelude.{ℤ, pos, negsuc, int_le, leb}
use Rattle.std.specs.List.{list_any, list_all}
use Rattle.std.proofs.lemmas.List.Folds.{list_any-append, list_any_at}
use Rattle.std.proofs.lemmas.Map.Views.{any-filter_same}
use Rattle.std.proofs.Math.Nat.{mod-lt}
use Rattle.std.proofs.lemmas.Bool.{or_right}
use Rattle.std.proofs.lemmas.Option.{slice_get_within, get_or_from_slice_get, same_Some}
use Rattle.js_data.specs.Event.{PlainEvent, same_event}
use Rattle.js_data.proofs.SameEvent.{same_event-sound, same_event-self}
use Rattle.js_data.proofs.Shared.{any_filter}
use Rattle.bp_log.specs.declared.options.Strategy.{Strategy}
use Rattle.bp_log.specs.declared.options.Strategy.TheVariants.{Simple, Ordered, Priority}
use Rattle.bp_run.specs.Selecting.{Live, Has, Asked, without_fault, blocked, unblocked, first_unblocked, distinct, candidates, Enabled, or_queued, selectable, requests, requested}
use Rattle.bp_run.specs.Choosing.{is_first_of, priority_of, at_most, is_greatest, remaining, Choice, drawn_of, queued_at, chosen, choice}
use Rattle.bp_run.specs.Chosen.{Stands, IsChosen, AllBlocked}
use Rattle.bp_run.proofs.Numbers.{both_ok}

-- whether e is one of the events
abbrev pub among : PlainEvent → List PlainEvent → Bool
among e xs = list_any (same_event e) xs

-- ---- candidates are the requested events

abbrev pub other : PlainEvent → PlainEvent → Bool
other e f = not (same_event e f)

not_same : (q : PlainEvent → Bool) (e k : PlainEvent) (b : Bool) → q e ≡ false → q k ≡ true → same_event e k ≡ b → not b ≡ true
not_same q e k true h m s = let f : q k ≡ false = subst (λ (y : PlainEvent). q y ≡ false) (same_event-sound e k s) h in absurd (cc)
not_same q e k false h m s = refl

any_distinct_at : (q : PlainEvent → Bool) (x : PlainEvent) (ds xs : List PlainEvent) (b : Bool) → q x ≡ b → list_any q ds ≡ list_any q xs → (b || list_any q (filter (other x) ds)) ≡ (b || list_any q xs)
any_distinct_at q x ds xs true h k = refl
any_distinct_at q x ds xs false h k = any-filter_same q (other x) true (λ y m. not_same q x y (same_event x y) h m refl) ds ∙ k

-- repeats don't matter for whether some event passes a test
pub any-distinct : (q : PlainEvent → Bool) (xs : List PlainEvent) → list_any q (distinct xs) ≡ list_any q xs
any-distinct q [] = refl
any-distinct q (x ∷ xs) = any_distinct_at q x (distinct xs) xs (q x) refl (any-distinct q xs)

among_requests : {S : Type 0} (e : PlainEvent) (ts : List (Live S)) → among e (flat_map (λ t. t.statement.request) ts) ≡ requested ts e
among_requests e [] = refl
among_requests e (t ∷ ts) =
    list_any-append (same_event e) t.statement.request (flat_map (λ t. t.statement.request) ts) ∙ ap (λ (b : Bool). requests e t || b) (among_requests e ts)

-- the candidates are the events that some b-thread requests
pub among_candidates : {S : Type 0} (e : PlainEvent) (ts : List (Live S)) → among e (candidates ts) ≡ requested ts e
among_candidates e ts = any-distinct (same_event e) (flat_map (λ t. t.statement.request) ts) ∙ among_requests e ts

-- ---- those that nobody blocks

-- each that is kept is one of the events, and nobody blocks it
pub record Free {S : Type 0} (has : Has S) (ts : List (Live S)) (es xs : List PlainEvent) : Type 0 where
  pub some : (e : PlainEvent) → among e xs ≡ true → among e es ≡ true
  pub free : (e : PlainEvent) → among e xs ≡ true → blocked has ts e ≡ Ok false
  pub all : (e : PlainEvent) → among e es ≡ true → (blocked has ts e ≡ Ok true) ⊎ (among e xs ≡ true)

none_among : (e : PlainEvent) → among e [] ≡ true → ⊥
none_among e h = cc

free_blocked : {S : Type 0} (has : Has S) (ts : List (Live S)) (e : PlainEvent) (es xs : List PlainEvent) → blocked has ts e ≡ Ok true → Free has ts es xs → Free has ts (e ∷ es) xs
free_blocked has ts e es xs h f =
    record {
      some = λ x k. or_right (same_event x e) (among x es) (f.some x k);
      free = f.free;
      all = λ x k. by_case x (same_event x e) refl k;
    }
  where
    by_case : (x : PlainEvent) (b : Bool) → same_event x e ≡ b → (b || among x es) ≡ true → (blocked has ts x ≡ Ok true) ⊎ (among x xs ≡ true)
    by_case x true s k = inl (subst (λ (y : PlainEvent). blocked has ts y ≡ Ok true) (sym (same_event-sound x e s)) h)
    by_case x false s k = f.all x k

free_kept : {S : Type 0} (has : Has S) (ts : List (Live S)) (e : PlainEvent) (es xs : List PlainEvent) → blocked has ts e ≡ Ok false → Free has ts es xs → Free has ts (e ∷ es) (e ∷ xs)
free_kept has ts e es xs h f =
    record {
      some = λ x k. some_case x (same_event x e) k;
      free = λ x k. free_case x (same_event x e) refl k;
      all = λ x k. all_case x (same_event x e) k;
    }
  where
    some_case : (x : PlainEvent) (b : Bool) → (b || among x xs) ≡ true → (b || among x es) ≡ true
    some_case x true k = refl
    some_case x false k = f.some x k

    free_case : (x : PlainEvent) (b : Bool) → same_event x e ≡ b → (b || among x xs) ≡ true → blocked has ts x ≡ Ok false
    free_case x true s k = subst (λ (y : PlainEvent). blocked has ts y ≡ Ok false) (sym (same_event-sound x e s)) h
    free_case x false s k = f.free x k

    all_case : (x : PlainEvent) (b : Bool) → (b || among x es) ≡ true → (blocked has ts x ≡ Ok true) ⊎ ((b || among x xs) ≡ true)
    all_case x true k = inr refl
    all_case x false k = f.all x k

free_at : {S : Type 0} (has : Has S) (ts : List (Live S)) (e : PlainEvent) (es xs : List PlainEvent) (b : Bool) → blocked has ts e ≡ Ok b → Free has ts es xs → Free has ts (e ∷ es) (if b then xs else e ∷ xs)
free_at has ts e es xs true h f = free_blocked has ts e es xs h f
free_at has ts e es xs false h f = free_kept has ts e es xs h f

pub unblocked_free : {S : Type 0} (has : Has S) (ts : List (Live S)) (es xs : List PlainEvent) → unblocked has ts es ≡ Ok xs → Free has ts es xs
unblocked_free has ts [] xs h =
    let f : [] ≡ xs = cc in
    subst (λ (ys : List PlainEvent). Free has ts [] ys) f (record { some = λ e k. k; free = λ e k. absurd (none_among e k); all = λ e k. absurd (none_among e k) })
unblocked_free has ts (e ∷ es) xs h =
    let p = both_ok (λ b rest. if b then rest else e ∷ rest) (blocked has ts e) (unblocked has ts es) xs h in
    subst (λ (ys : List PlainEvent). Free has ts (e ∷ es) ys) (sym p.4) (free_at has ts e es p.1 p.0 p.2 (unblocked_free has ts es p.1 p.3))

-- ---- the queue

-- the first of the queue that nobody blocks; all before it are blocked
abbrev IsFirst : {S : Type 0} → Has S → List (Live S) → ℕ → List PlainEvent → Option ℕ → Type 0
IsFirst has ts n queue None = (k : ℕ) (e : PlainEvent) → slice_get queue k ≡ Some e → blocked has ts e ≡ Ok true
IsFirst has ts n queue (Some place) = (k : ℕ) × (e : PlainEvent) × (place ≡ n + k) × (slice_get queue k ≡ Some e) × (blocked has ts e ≡ Ok false)

later_blocked : {S : Type 0} (has : Has S) (ts : List (Live S)) (e : PlainEvent) (es : List PlainEvent) → blocked has ts e ≡ Ok true →
    ((k : ℕ) (x : PlainEvent) → slice_get es k ≡ Some x → blocked has ts x ≡ Ok true) → (k : ℕ) (x : PlainEvent) → slice_get (e ∷ es) k ≡ Some x → blocked has ts x ≡ Ok true
later_blocked has ts e es h f zero x k = let p : e ≡ x = cc in subst (λ (y : PlainEvent). blocked has ts y ≡ Ok true) p h
later_blocked has ts e es h f (suc i) x k = f i x k

next_first : {S : Type 0} (has : Has S) (ts : List (Live S)) (n : ℕ) (e : PlainEvent) (es : List PlainEvent) (o : Option ℕ) → blocked has ts e ≡ Ok true → IsFirst has ts (suc n) es o → IsFirst has ts n (e ∷ es) o
next_first has ts n e es None h f = later_blocked has ts e es h f
next_first has ts n e es (Some place) h f = let p = f.2 in (suc f.0, f.1, omega (arith, p), f.3, f.4)

first_at : {S : Type 0} (has : Has S) (ts : List (Live S)) (n : ℕ) (e : PlainEvent) (es : List PlainEvent) (o : Option ℕ) (x : Asked Bool) → blocked has ts e ≡ x →
    (let a : Asked (Option ℕ) = elim x [ Err y ↦ Err y | Ok b ↦ elim b [ true ↦ first_unblocked has ts (suc n) es | false ↦ Ok (Some n) ] ] in a ≡ Ok o) →
    (first_unblocked has ts (suc n) es ≡ Ok o → IsFirst has ts (suc n) es o) → IsFirst has ts n (e ∷ es) o
first_at has ts n e es o (Err y) q h ih = absurd (cc)
first_at has ts n e es o (Ok true) q h ih = next_first has ts n e es o q (ih h)
first_at has ts n e es None (Ok false) q h ih = absurd (cc)
first_at has ts n e es (Some place) (Ok false) q h ih = let p : n ≡ place = cc in (0, e, omega (arith, p), refl, q)

pub first_is : {S : Type 0} (has : Has S) (ts : List (Live S)) (n : ℕ) (queue : List PlainEvent) (o : Option ℕ) → first_unblocked has ts n queue ≡ Ok o → IsFirst has ts n queue o
first_is has ts n [] None h = λ k e m. absurd (cc)
first_is has ts n [] (Some place) h = absurd (cc)
first_is has ts n (e ∷ es) o h = first_at has ts n e es o (blocked has ts e) refl h (λ k. first_is has ts (suc n) es o k)

-- ---- what is left to draw from

-- a filter that some element passes is not empty
kept_at : (b : Bool) (y : PlainEvent) (ys : List PlainEvent) → cond b (y ∷ ys) ys ≡ [] → (b ≡ false) × (ys ≡ [])
kept_at true y ys n = absurd (cc)
kept_at false y ys n = (refl, n)

passing_at : (q : PlainEvent → Bool) (y : PlainEvent) (ys : List PlainEvent) (x : PlainEvent) (b : Bool) → same_event x y ≡ b → (b || among x ys) ≡ true → q x ≡ true →
    (q y ≡ false) × (filter q ys ≡ []) → (among x ys ≡ true → filter q ys ≡ [] → ⊥) → ⊥
passing_at q y ys x true s n k m ih =
    let p : q y ≡ true = subst (λ (z : PlainEvent). q z ≡ true) (same_event-sound x y s) k in
    let f : q y ≡ false = m.0 in cc
passing_at q y ys x false s n k m ih = ih n m.1

passing : (q : PlainEvent → Bool) (xs : List PlainEvent) (x : PlainEvent) → among x xs ≡ true → q x ≡ true → filter q xs ≡ [] → ⊥
passing q [] x h k m = cc
passing q (y ∷ ys) x h k m = passing_at q y ys x (same_event x y) refl h k (kept_at (q y) y (filter q ys) m) (λ a f. passing q ys x a k f)

remaining_some : {S : Type 0} (s : Strategy) (ts : List (Live S)) (inner : List PlainEvent) (e : PlainEvent) → among e (remaining s ts inner) ≡ true → among e inner ≡ true
remaining_some Simple ts inner e h = h
remaining_some Ordered ts inner e h = any_filter (same_event e) (λ x. list_any (is_first_of inner x) ts) inner h
remaining_some Priority ts inner e h = any_filter (same_event e) (is_greatest ts inner) inner h

-- ---- ordered: the first request of some b-thread that is among the events

-- the first among them, of a list that has one
abbrev First : List PlainEvent → Option PlainEvent → Type 0
First inner o = (r : PlainEvent) × (o ≡ Some r) × (among r inner ≡ true)

first_among_at : (inner rs : List PlainEvent) (e r : PlainEvent) (a b : Bool) → among r inner ≡ a → same_event e r ≡ b → among e inner ≡ true → (b || among e rs) ≡ true →
    (among e rs ≡ true → First inner (find (λ x. among x inner) rs)) → First inner (cond a (Some r) (find (λ x. among x inner) rs))
first_among_at inner rs e r true b p s h k ih = (r, refl, p)
first_among_at inner rs e r false true p s h k ih = let q : among r inner ≡ true = subst (λ (z : PlainEvent). among z inner ≡ true) (same_event-sound e r s) h in absurd (cc)
first_among_at inner rs e r false false p s h k ih = ih k

first_among : (inner rs : List PlainEvent) (e : PlainEvent) → among e inner ≡ true → among e rs ≡ true → First inner (find (λ x. among x inner) rs)
first_among inner [] e h k = absurd (cc)
first_among inner (r ∷ rs) e h k = first_among_at inner rs e r (among r inner) (same_event e r) refl refl h k (λ m. first_among inner rs e h m)

is_that : (o : Option PlainEvent) (r : PlainEvent) → o ≡ Some r → (elim o [ None ↦ false | Some x ↦ same_event x r ]) ≡ true
is_that o r h = rw h (same_event-self r)

first_of_one : {S : Type 0} (inner : List PlainEvent) (t : Live S) (e : PlainEvent) → among e inner ≡ true → requests e t ≡ true →
    (r : PlainEvent) × (among r inner ≡ true) × (is_first_of inner r t ≡ true)
first_of_one inner t e h k =
    let f = first_among inner t.statement.request e h k in
    (f.0, f.2, is_that (find (λ x. among x inner) t.statement.request) f.0 f.1)

abbrev FirstOf : {S : Type 0} → List PlainEvent → List (Live S) → Type 0
FirstOf inner ts = (r : PlainEvent) × (among r inner ≡ true) × (list_any (is_first_of inner r) ts ≡ true)

first_of_at : {S : Type 0} (inner : List PlainEvent) (t : Live S) (ts : List (Live S)) (e : PlainEvent) (b : Bool) → requests e t ≡ b → among e inner ≡ true → (b || requested ts e) ≡ true →
    (requested ts e ≡ true → FirstOf inner ts) → FirstOf inner (t ∷ ts)
first_of_at inner t ts e true p h k ih = let f = first_of_one inner t e h p in (f.0, f.1, rw f.2 refl)
first_of_at inner t ts e false p h k ih = let f = ih k in (f.0, f.1, or_right (is_first_of inner f.0 t) (list_any (is_first_of inner f.0) ts) f.2)

first_of_some : {S : Type 0} (inner : List PlainEvent) (ts : List (Live S)) (e : PlainEvent) → among e inner ≡ true → requested ts e ≡ true → FirstOf inner ts
first_of_some inner [] e h k = absurd (cc)
first_of_some inner (t ∷ ts) e h k = first_of_at inner t ts e (requests e t) refl h k (λ m. first_of_some inner ts e h m)

-- ---- priority: one of the greatest

leb_total : (a b : ℕ) → leb a b ≡ false → leb b a ≡ true
leb_total a b h = grind arith

leb_trans : (a b c : ℕ) → leb a b ≡ true → leb b c ≡ true → leb a c ≡ true
leb_trans a b c h k = grind arith

pub int_total : (a b : ℤ) → int_le a b ≡ false → int_le b a ≡ true
int_total (pos a) (pos b) h = leb_total a b h
int_total (pos a) (negsuc b) h = refl
int_total (negsuc a) (pos b) h = absurd (cc)
int_total (negsuc a) (negsuc b) h = leb_total b a h

pub int_trans : (a b c : ℤ) → int_le a b ≡ true → int_le b c ≡ true → int_le a c ≡ true
int_trans (pos a) (pos b) (pos c) h k = leb_trans a b c h k
int_trans (pos a) (pos b) (negsuc c) h k = absurd (cc)
int_trans (pos a) (negsuc b) c h k = absurd (cc)
int_trans (negsuc a) b (pos c) h k = refl
int_trans (negsuc a) (pos b) (negsuc c) h k = absurd (cc)
int_trans (negsuc a) (negsuc b) (negsuc c) h k = leb_trans c b a k h

total : (a b : Option ℤ) → at_most a b ≡ false → at_most b a ≡ true
total None b h = absurd (cc)
total (Some a) None h = refl
total (Some a) (Some b) h = int_total a b h

trans : (a b c : Option ℤ) → at_most a b ≡ true → at_most b c ≡ true → at_most a c ≡ true
trans None b c h k = refl
trans (Some a) None c h k = absurd (cc)
trans (Some a) (Some b) None h k = absurd (cc)
trans (Some a) (Some b) (Some c) h k = int_trans a b c h k

at_most_self : (a : Option ℤ) (b : Bool) → at_most a a ≡ b → at_most a a ≡ true
at_most_self a true h = h
at_most_self a false h = total a a h

-- all are at most this
abbrev AllMost : (PlainEvent → Option ℤ) → List PlainEvent → PlainEvent → Type 0
AllMost p xs e = list_all (λ x. at_most (p x) (p e)) xs ≡ true

most_up_at : (b c d f : Bool) → (b ≡ true → c ≡ true) → (d ≡ true → f ≡ true) → (b && d) ≡ true → (c && f) ≡ true
most_up_at true c d f h k m = rw (h refl) (k m)
most_up_at false c d f h k m = absurd (cc)

most_up : (p : PlainEvent → Option ℤ) (xs : List PlainEvent) (e f : PlainEvent) → at_most (p e) (p f) ≡ true → AllMost p xs e → AllMost p xs f
most_up p [] e f h k = refl
most_up p (x ∷ xs) e f h k =
    most_up_at (at_most (p x) (p e)) (at_most (p x) (p f)) (list_all (λ x. at_most (p x) (p e)) xs) (list_all (λ x. at_most (p x) (p f)) xs)
    (λ m. trans (p x) (p e) (p f) m h) (λ m. most_up p xs e f h m) k

greatest_of : (p : PlainEvent → Option ℤ) (y : PlainEvent) (xs : List PlainEvent) → (e : PlainEvent) × (among e (y ∷ xs) ≡ true) × AllMost p (y ∷ xs) e
greatest_of p y [] = (y, rw (same_event-self y) refl, rw (at_most_self (p y) (at_most (p y) (p y)) refl) refl)
greatest_of p y (z ∷ xs) = let g = greatest_of p z xs in at g.0 g.1 g.2 (at_most (p y) (p g.0)) refl
  where
    at : (e : PlainEvent) → among e (z ∷ xs) ≡ true → AllMost p (z ∷ xs) e → (b : Bool) → at_most (p y) (p e) ≡ b → (f : PlainEvent) × (among f (y ∷ z ∷ xs) ≡ true) × AllMost p (y ∷ z ∷ xs) f
    at e h k true q = (e, or_right (same_event e y) (among e (z ∷ xs)) h, rw q k)
    at e h k false q = (y, rw (same_event-self y) refl, rw (at_most_self (p y) (at_most (p y) (p y)) refl) (most_up p (z ∷ xs) e y (total (p y) (p e) q) k))

-- every strategy leaves something
remaining_not_empty : {S : Type 0} (s : Strategy) (ts : List (Live S)) (e : PlainEvent) (es : List PlainEvent) → ((x : PlainEvent) → among x (e ∷ es) ≡ true → requested ts x ≡ true) →
    remaining s ts (e ∷ es) ≡ [] → ⊥
remaining_not_empty Simple ts e es h k = cc
remaining_not_empty Ordered ts e es h k =
    let i : among e (e ∷ es) ≡ true = rw (same_event-self e) refl in
    let f = first_of_some (e ∷ es) ts e i (h e i) in
    passing (λ x. list_any (is_first_of (e ∷ es) x) ts) (e ∷ es) f.0 f.1 f.2 k
remaining_not_empty Priority ts e es h k =
    let g = greatest_of (priority_of ts) e es in
    passing (is_greatest ts (e ∷ es)) (e ∷ es) g.0 g.1 g.2 k

-- ---- the draw

among_get : (xs : List PlainEvent) (k : ℕ) (e : PlainEvent) → slice_get xs k ≡ Some e → among e xs ≡ true
among_get xs k e h = list_any_at (same_event e) xs k e (slice_get_within xs k e h) (ap (same_event e) (get_or_from_slice_get xs k e e h) ∙ same_event-self e)

-- it is one of those that are left
record Draws (xs : List PlainEvent) (ch : Choice) : Type 0 where
  some : among ch.event xs ≡ true
  inside : ch.place ≡ None

draws_at : (d : ℕ) (xs : List PlainEvent) (k : ℕ) (o : Option PlainEvent) (ch : Choice) → slice_get xs k ≡ o → option_map (λ x. record { event = x; place = None; drawn = d }) o ≡ Some ch → Draws xs ch
draws_at d xs k None ch h m = absurd (cc)
draws_at d xs k (Some e) ch h m =
    let f : record { event = e; place = None; drawn = d } ≡ ch = cc in
    subst (λ (c : Choice). Draws xs c) f (record { some = among_get xs k e h; inside = refl })

draws : (word : ℕ → ℕ) (d : ℕ) (xs : List PlainEvent) (ch : Choice) → drawn_of word d xs ≡ Some ch → Draws xs ch
draws word d [] ch h = absurd (cc)
draws word d (e ∷ []) ch h = draws_at d (e ∷ []) 0 (Some e) ch refl h
draws word d (e ∷ f ∷ rest) ch h = draws_at (d + 1) (e ∷ f ∷ rest) (word d % length (e ∷ f ∷ rest)) (slice_get (e ∷ f ∷ rest) (word d % length (e ∷ f ∷ rest))) ch refl h

get_within : (xs : List PlainEvent) (k : ℕ) → k < length xs → slice_get xs k ≡ None → ⊥
get_within [] k h m = omega arith
get_within (x ∷ xs) zero h m = cc
get_within (x ∷ xs) (suc k) h m = get_within xs k (omega arith) m

map_not : {A B : Type 0} (f : A → B) (o : Option A) → option_map f o ≡ None → o ≡ None
map_not f None h = refl
map_not f (Some a) h = absurd (cc)

draws_some : (word : ℕ → ℕ) (d : ℕ) (xs : List PlainEvent) → (xs ≡ [] → ⊥) → drawn_of word d xs ≡ None → ⊥
draws_some word d [] h k = h refl
draws_some word d (e ∷ []) h k = cc
draws_some word d (e ∷ f ∷ rest) h k =
    get_within (e ∷ f ∷ rest) (word d % length (e ∷ f ∷ rest)) (mod-lt (word d) (omega arith)) (map_not _ (slice_get (e ∷ f ∷ rest) (word d % length (e ∷ f ∷ rest))) k)

-- ---- the choice

abbrev Decided : {S : Type 0} → Has S → List (Live S) → List PlainEvent → Option Choice → Type 0
Decided has ts queue None = AllBlocked has ts queue
Decided has ts queue (Some ch) = IsChosen has ts queue ch

none_kept : {S : Type 0} (has : Has S) (ts : List (Live S)) (e : PlainEvent) → (blocked has ts e ≡ Ok true) ⊎ (among e [] ≡ true) → blocked has ts e ≡ Ok true
none_kept has ts e (inl h) = h
none_kept has ts e (inr h) = absurd (none_among e h)

queue_at : {S : Type 0} (has : Has S) (ts : List (Live S)) (queue : List PlainEvent) (d n k : ℕ) (e : PlainEvent) (o : Option Choice) → n ≡ k → slice_get queue k ≡ Some e → blocked has ts e ≡ Ok false →
    option_map (λ x. record { event = x; place = Some n; drawn = d }) (slice_get queue n) ≡ o → Decided has ts queue o
queue_at has ts queue d n k e None p h f m =
    let g : slice_get queue n ≡ Some e = ap (λ (i : ℕ). slice_get queue i) p ∙ h in
    let z = map_not _ (slice_get queue n) m in absurd (cc)
queue_at has ts queue d n k e (Some ch) p h f m =
    let g : slice_get queue n ≡ Some e = ap (λ (i : ℕ). slice_get queue i) p ∙ h in
    let c : record { event = e; place = Some n; drawn = d } ≡ ch = (let q = ap (λ (x : Option PlainEvent). option_map (λ y. record { event = y; place = Some n; drawn = d }) x) g in same_Some _ ch (sym q ∙ m)) in
    subst (λ (x : Choice). IsChosen has ts queue x) c (record { stands = g; free = f })

all_blocked : {S : Type 0} (has : Has S) (ts : List (Live S)) (queue : List PlainEvent) → Free has ts (candidates ts) [] → IsFirst has ts 0 queue None → AllBlocked has ts queue
all_blocked has ts queue f i e None m = none_kept has ts e (f.all e (among_candidates e ts ∙ m))
all_blocked has ts queue f i e (Some place) m = i place e m

decided_queue : {S : Type 0} (has : Has S) (ts : List (Live S)) (queue : List PlainEvent) (d : ℕ) (outer : Option ℕ) (o : Option Choice) → Free has ts (candidates ts) [] → IsFirst has ts 0 queue outer →
    queued_at d queue outer ≡ o → Decided has ts queue o
decided_queue has ts queue d None None f i h = λ e place m. all_blocked has ts queue f i e place m
decided_queue has ts queue d None (Some ch) f i h = absurd (cc)
decided_queue has ts queue d (Some n) o f i h = let p = i.2 in queue_at has ts queue d n i.0 i.1 o (omega (arith, p)) i.3 i.4 h

decided_inner : {S : Type 0} (has : Has S) (word : ℕ → ℕ) (s : Strategy) (ts : List (Live S)) (queue : List PlainEvent) (d : ℕ) (e : PlainEvent) (es : List PlainEvent) (o : Option Choice) →
    Free has ts (candidates ts) (e ∷ es) → drawn_of word d (remaining s ts (e ∷ es)) ≡ o → Decided has ts queue o
decided_inner has word s ts queue d e es None f h =
    absurd (draws_some word d (remaining s ts (e ∷ es)) (λ k. remaining_not_empty s ts e es (λ x m. sym (among_candidates x ts) ∙ f.some x m) k) h)
decided_inner has word s ts queue d e es (Some ch) f h =
    let k = draws word d (remaining s ts (e ∷ es)) ch h in
    let m = remaining_some s ts (e ∷ es) ch.event k.some in
    record {
      stands = subst (λ (p : Option ℕ). Stands ts queue ch.event p) (sym k.inside) (sym (among_candidates ch.event ts) ∙ f.some ch.event m);
      free = f.free ch.event m;
    }

abbrev choice_in : {S : Type 0} → Has S → (ℕ → ℕ) → Strategy → List (Live S) → List PlainEvent → ℕ → Asked Enabled → Asked (Option Choice)
choice_in has word s ts queue d x = without_fault (λ y. chosen word s ts queue d y.inner y.outer) x

decided_outer : {S : Type 0} (has : Has S) (word : ℕ → ℕ) (s : Strategy) (ts : List (Live S)) (queue : List PlainEvent) (d : ℕ) (x : Asked (Option ℕ)) (o : Option Choice) → first_unblocked has ts 0 queue ≡ x →
    Free has ts (candidates ts) [] → choice_in has word s ts queue d (without_fault (λ place. record { inner = []; outer = place }) x) ≡ Ok o → Decided has ts queue o
decided_outer has word s ts queue d (Err y) o q f h = absurd (cc)
decided_outer has word s ts queue d (Ok outer) o q f h = decided_queue has ts queue d outer o f (first_is has ts 0 queue outer q) (let g : queued_at d queue outer ≡ o = cc in g)

decided_at : {S : Type 0} (has : Has S) (word : ℕ → ℕ) (s : Strategy) (ts : List (Live S)) (queue : List PlainEvent) (d : ℕ) (x : Asked (List PlainEvent)) (o : Option Choice) → unblocked has ts (candidates ts) ≡ x →
    choice_in has word s ts queue d (or_queued has ts queue x) ≡ Ok o → Decided has ts queue o
decided_at has word s ts queue d (Err y) o q h = absurd (cc)
decided_at has word s ts queue d (Ok []) o q h = decided_outer has word s ts queue d (first_unblocked has ts 0 queue) o refl (unblocked_free has ts (candidates ts) [] q) h
decided_at has word s ts queue d (Ok (e ∷ es)) o q h =
    decided_inner has word s ts queue d e es o (unblocked_free has ts (candidates ts) (e ∷ es) q) (let g : drawn_of word d (remaining s ts (e ∷ es)) ≡ o = cc in g)

-- what is chosen is requested by some or waits in the queue, and is blocked by none
pub choice_is_chosen : {S : Type 0} (has : Has S) (word : ℕ → ℕ) (s : Strategy) (ts : List (Live S)) (queue : List PlainEvent) (d : ℕ) (ch : Choice) →
    choice has word s ts queue d ≡ Ok (Some ch) → IsChosen has ts queue ch
unfolding choice selectable
choice_is_chosen has word s ts queue d ch h = decided_at has word s ts queue d (unblocked has ts (candidates ts)) (Some ch) refl h

-- nothing is chosen only where all that could be selected is blocked
pub nothing_chosen : {S : Type 0} (has : Has S) (word : ℕ → ℕ) (s : Strategy) (ts : List (Live S)) (queue : List PlainEvent) (d : ℕ) →
    choice has word s ts queue d ≡ Ok None → AllBlocked has ts queue
unfolding choice selectable
nothing_chosen has word s ts queue d h = decided_at has word s ts queue d (unblocked has ts (candidates ts)) None refl h
