-- Each turn after the first has a newly registered b-thread, so settling comes to rest within its turns.
use Rattle.std.proofs.Common.{◌≡◌, ℕ, zero, suc, ◌+◌, ◌<◌, ◌≤◌, Bool, true, false, List, [], ◌∷◌, length, refl, sym, ap, ◌∙◌, arith, Option, Some, None, if◌then◌else◌, ◌==◌, nat_eq, length-append, map, is_some}
use Rattle.std.proofs.lemmas.Bool.{eq-eqb}
use Rattle.bp_log.specs.declared.limits.TheConstants.{MOST_WAITING, MOST_THREADS}
use Rattle.bp_log.specs.declared.verdict.Verdict.{Verdict}
use Rattle.bp_log.specs.declared.verdict.Verdict.TheVariants as verdict
use Rattle.bp_log.specs.declared.verdict.Place.{Place}
use Rattle.bp_run.specs.Bodies.{Code, Part, Effect, Outcome}
use Rattle.bp_run.specs.Bodies.Effect.{Says, Enqueue, Register, Handler}
use Rattle.bp_run.specs.Bodies.Outcome.{Stopped, Ended, Broken, Violated, Spent}
use Rattle.bp_run.specs.Configuration.{change}
use Rattle.bp_run.specs.Settling.{Entry, Pair, Ran, ran, unless_at, unless_over, stopped, queued, registered, with_effect, with_effects, with_end, with_outcome, with_part, merged, turn, at_rest, settle_in, settle, place_of}
use Rattle.bp_run.specs.Settling.Entry.{The_top, Runs, Stops}

-- as many entries as b-threads came, and no b-thread past the limit
pub record Counted {O : Type 0} (p q : Pair O) : Type 0 where
  pub count : length q.stand.threads + length p.entries ≡ length p.stand.threads + length q.entries
  pub within : length p.stand.threads ≤ MOST_THREADS → length q.stand.threads ≤ MOST_THREADS

counted_refl : {O : Type 0} (p : Pair O) → Counted p p
counted_refl p = record { count = refl; within = λ h. h }

counted_trans : {O : Type 0} (p q r : Pair O) → Counted p q → Counted q r → Counted p r
counted_trans p q r a b = record { count = omega (arith, a.count, b.count); within = λ h. b.within (a.within h) }

counted_unless : {O : Type 0} (v : Option Verdict) (f : Pair O → Pair O) (p : Pair O) → Counted p (f p) → Counted p (unless_at v f p)
counted_unless None f p g = g
counted_unless (Some v) f p g = counted_refl p

counted_if : {O : Type 0} (c : Pair O) (b : Bool) (p q : Pair O) → Counted c p → Counted c q → Counted c (if b then p else q)
counted_if c true p q g h = g
counted_if c false p q g h = h

-- a registration is made only below the limit
counted_register : {O : Type 0} (p : Pair O) (name : List ℕ) (o : O) (b : Bool) → nat_eq (length p.stand.threads) MOST_THREADS ≡ b →
    Counted p (if b then stopped verdict.Threads p else registered name o p)
counted_register p name o true h = record { count = refl; within = λ h. h }
counted_register p name o false h =
    let other : (length p.stand.threads ≡ MOST_THREADS) → ⊥ = λ e. (let t : nat_eq (length p.stand.threads) MOST_THREADS ≡ true = eq-eqb (length p.stand.threads) MOST_THREADS e in cc) in
    let more = length-append p.stand.threads (record { name = name; origin = o; replies = []; ended = false } ∷ []) in
    let entries = length-append p.entries (Runs (length p.stand.threads) ∷ []) in
    record { count = omega (arith, more, entries); within = λ k. omega (arith, more, other, k) }

counted_effect : {O : Type 0} (at : Place) (x : Effect O) (p : Pair O) → Counted p (with_effect at x p)
counted_effect at (Says t) p = record { count = refl; within = λ h. h }
counted_effect at (Enqueue e) p =
    counted_if p (length p.stand.queue == MOST_WAITING) (stopped verdict.Queue p) (record p { stand = queued e p.stand })
    (record { count = refl; within = λ h. h }) (record { count = refl; within = λ h. h })
counted_effect at (Register name o) p = counted_register p name o (nat_eq (length p.stand.threads) MOST_THREADS) refl
counted_effect at Handler p = counted_refl p

counted_effects : {O : Type 0} (at : Place) (xs : List (Effect O)) (p : Pair O) → Counted p (with_effects at xs p)
counted_effects at [] p = counted_refl p
counted_effects at (x ∷ xs) p =
    counted_trans p (unless_over (with_effect at x) p) (with_effects at xs (unless_over (with_effect at x) p))
    (counted_unless p.stand.verdict (with_effect at x) p (counted_effect at x p)) (counted_effects at xs (unless_over (with_effect at x) p))

pub length-change : {A : Type 0} (f : A → A) (i : ℕ) (xs : List A) → length (change f i xs) ≡ length xs
length-change f i [] = refl
length-change f zero (x ∷ xs) = refl
length-change f (suc i) (x ∷ xs) = ap (λ (n : ℕ). suc n) (length-change f i xs)

counted_end : {O : Type 0} (n : Entry O) (p : Pair O) → Counted p (with_end n p)
counted_end The_top p = counted_refl p
counted_end (Runs i) p =
    let same = length-change (λ t. record t { ended = true }) i p.stand.threads in
    record { count = omega (arith, same); within = λ h. omega (arith, same, h) }
counted_end (Stops i b) p = record { count = refl; within = λ h. h }

counted_outcome : {O S : Type 0} (n : Entry O) (x : Outcome S) (p : Pair O) → Counted p (with_outcome n x p)
counted_outcome n (Stopped s) p = counted_refl p
counted_outcome n Ended p = counted_end n p
counted_outcome n (Broken f l) p = record { count = refl; within = λ h. h }
counted_outcome n (Violated t) p = record { count = refl; within = λ h. h }
counted_outcome n Spent p = record { count = refl; within = λ h. h }

counted_part : {O S : Type 0} (n : Entry O) (x : Part O S) (p : Pair O) → Counted p (with_part n x p)
counted_part n x p =
    let q = with_effects (place_of p.stand n) x.effects p in
    counted_trans p q (with_part n x p) (counted_effects (place_of p.stand n) x.effects p)
    (counted_unless q.stand.verdict (with_outcome n x.outcome) q (counted_outcome n x.outcome q))

counted_merged : {O S : Type 0} (rs : List (Ran O S)) (p : Pair O) → Counted p (merged rs p)
counted_merged [] p = counted_refl p
counted_merged (r ∷ rs) p =
    let f = with_part r.entry r.part in
    counted_trans p (unless_over f p) (merged rs (unless_over f p))
    (counted_unless p.stand.verdict f p (counted_part r.entry r.part p)) (counted_merged rs (unless_over f p))

-- a turn registers as many b-threads as it leaves entries
pub turn_counts : {O S : Type 0} (l : Code O S) (p : Pair O) → length (turn l p).stand.threads ≡ length p.stand.threads + length (turn l p).entries
unfolding turn
turn_counts l p = let k = counted_merged (map (ran l p.stand) p.entries) (record { stand = p.stand; entries = [] }) in omega (arith, k.count)

pub turn_within : {O S : Type 0} (l : Code O S) (p : Pair O) → length p.stand.threads ≤ MOST_THREADS → length (turn l p).stand.threads ≤ MOST_THREADS
unfolding turn
turn_within l p h = (counted_merged (map (ran l p.stand) p.entries) (record { stand = p.stand; entries = [] })).within h

rest_entries : {O : Type 0} (v : Option Verdict) (ns : List (Entry O)) → (elim v [ None ↦ elim ns [ [] ↦ true | n ∷ more ↦ false ] | Some w ↦ true ]) ≡ false → 0 < length ns
rest_entries (Some w) ns h = absurd (cc)
rest_entries None [] h = absurd (cc)
rest_entries None (n ∷ ns) h = omega arith

-- what is not at rest has an entry
pub restless : {O : Type 0} (p : Pair O) → at_rest p ≡ false → 0 < length p.entries
restless p h = rest_entries p.stand.verdict p.entries h

pub settled : {O S : Type 0} (l : Code O S) (n : ℕ) (p : Pair O) → at_rest p ≡ true → settle_in l n p ≡ p.stand
unfolding settle_in
settled l zero p h = refl
settled l (suc n) p h = rw (settle_in, h) refl

pub unsettled : {O S : Type 0} (l : Code O S) (n : ℕ) (p : Pair O) → at_rest p ≡ false → settle_in l (suc n) p ≡ settle_in l n (turn l p)
unfolding settle_in
unsettled l n p h = rw (settle_in, h) refl

turned_alike : {O S : Type 0} (l : Code O S) (n m : ℕ) (q : Pair O) (b : Bool) → at_rest q ≡ b → (at_rest q ≡ false → settle_in l n q ≡ settle_in l m q) → settle_in l n q ≡ settle_in l m q
turned_alike l n m q true h k = settled l n q h ∙ sym (settled l m q h)
turned_alike l n m q false h k = k h

enough_at : {O S : Type 0} (l : Code O S) (n m : ℕ) (p : Pair O) (b : Bool) → at_rest p ≡ b →
    (at_rest (turn l p) ≡ false → settle_in l n (turn l p) ≡ settle_in l m (turn l p)) → settle_in l (suc n) p ≡ settle_in l (suc m) p
enough_at l n m p true h k = settled l (suc n) p h ∙ sym (settled l (suc m) p h)
enough_at l n m p false h k = unsettled l n p h ∙ turned_alike l n m (turn l p) (at_rest (turn l p)) refl k ∙ sym (unsettled l m p h)

-- with enough turns it doesn't matter how many
pub enough_turns : {O S : Type 0} (l : Code O S) (n m : ℕ) (p : Pair O) → length p.stand.threads ≤ MOST_THREADS → MOST_THREADS + 1 ≤ n + length p.stand.threads → MOST_THREADS + 1 ≤ m + length p.stand.threads → settle_in l n p ≡ settle_in l m p
enough_turns l zero m p w a b = absurd (omega arith)
enough_turns l (suc n) zero p w a b = absurd (omega arith)
enough_turns l (suc n) (suc m) p w a b =
    enough_at l n m p (at_rest p) refl
    (λ r.
    let some = restless (turn l p) r in
    let count = turn_counts l p in
    enough_turns l n m (turn l p) (turn_within l p w) (omega (arith, some, count)) (omega (arith, some, count)))

-- a turn of a pair that isn't at rest leaves what it settles to
pub settle-turn : {O S : Type 0} (l : Code O S) (p : Pair O) → length p.stand.threads ≤ MOST_THREADS → at_rest p ≡ false → settle l (turn l p) ≡ settle l p
unfolding settle
settle-turn l p w h =
    turned_alike l (MOST_THREADS + 1) MOST_THREADS (turn l p) (at_rest (turn l p)) refl
    (λ r.
    let some = restless (turn l p) r in
    let count = turn_counts l p in
    enough_turns l (MOST_THREADS + 1) MOST_THREADS (turn l p) (turn_within l p w) (omega (arith, some, count)) (omega (arith, some, count)))
    ∙ sym (unsettled l MOST_THREADS p h)

rest_at : {O : Type 0} (v : Option Verdict) (ns : List (Entry O)) → is_some v ≡ true → (elim v [ None ↦ elim ns [ [] ↦ true | n ∷ more ↦ false ] | Some w ↦ true ]) ≡ true
rest_at None ns h = absurd (cc)
rest_at (Some v) ns h = refl

-- a pair at rest settles to itself
pub settle-rest : {O S : Type 0} (l : Code O S) (p : Pair O) → at_rest p ≡ true → settle l p ≡ p.stand
unfolding settle
settle-rest l p h = settled l (MOST_THREADS + 1) p h

-- nothing is run where there is a verdict
pub settle_over : {O S : Type 0} (l : Code O S) (p : Pair O) → is_some p.stand.verdict ≡ true → settle l p ≡ p.stand
settle_over l p h = settle-rest l p (rest_at p.stand.verdict p.entries h)
