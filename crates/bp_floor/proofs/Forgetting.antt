-- What an ended b-thread ran and received is not read: a pair that has forgotten it goes on as the pair itself.
use Rattle.std.proofs.Common.{◌≡◌, ℕ, zero, suc, Bool, true, false, List, [], ◌∷◌, ◌++◌, length, map, refl, sym, ap, ◌∙◌, Option, Some, None, if◌then◌else◌, ◌==◌, slice_get, ◌+◌, not, cond, count_by}
use Rattle.std.proofs.lemmas.List.{map-append, length-map}
use Rattle.std.proofs.lemmas.List.Folds.{fold-map}
use Rattle.bp_log.specs.declared.limits.TheConstants.{MOST_WAITING, MOST_THREADS}
use Rattle.bp_log.specs.declared.trace.Line.{Line}
use Rattle.bp_log.specs.declared.trace.Line.TheVariants as trace
use Rattle.bp_log.specs.declared.verdict.Verdict.{Verdict}
use Rattle.bp_log.specs.declared.verdict.Verdict.TheVariants as verdict
use Rattle.bp_log.specs.declared.verdict.Place.{Place}
use Rattle.bp_run.specs.Bodies.{Code, Part, Effect, Outcome}
use Rattle.bp_run.specs.Bodies.Effect.{Says, Enqueue, Register, Handler}
use Rattle.bp_run.specs.Bodies.Outcome.{Stopped, Ended, Broken, Violated, Spent}
use Rattle.bp_run.specs.Configuration.{Stand, Thread, change, name_in}
use Rattle.bp_run.specs.Settling.{Entry, Pair, Ran, ran, own_body, unless_at, unless_over, stopped, said, queued, registered, with_effect, with_effects, with_end, with_outcome, with_part, merged, turn, place_of, before}
use Rattle.bp_run.specs.Settling.Entry.{The_top, Runs, Stops}
use Rattle.bp_run.proofs.Before.{before_turn}
use Rattle.bp_floor.specs.Forgetting.{forget, forgotten_in, forgotten, IsGoing, AreGoing}

-- ---- one b-thread

pub forget_twice_at : {O : Type 0} (o : O) (b : Bool) (t : Thread O) → t.ended ≡ b → forget o (forget o t) ≡ forget o t
forget_twice_at o true t h = rw h refl
forget_twice_at o false t h = rw h refl

forget_name_at : {O : Type 0} (o : O) (b : Bool) (t : Thread O) → t.ended ≡ b → (forget o t).name ≡ t.name
forget_name_at o true t h = rw h refl
forget_name_at o false t h = rw h refl

pub forget_ended_at : {O : Type 0} (o : O) (b : Bool) (t : Thread O) → t.ended ≡ b → (forget o t).ended ≡ t.ended
forget_ended_at o true t h = rw h refl
forget_ended_at o false t h = rw h refl

forget_name : {O : Type 0} (o : O) (t : Thread O) → (forget o t).name ≡ t.name
forget_name o t = forget_name_at o t.ended t refl

pub forget_end_at : {O : Type 0} (o : O) (b : Bool) (t : Thread O) → t.ended ≡ b → forget o (record (forget o t) { ended = true }) ≡ forget o (record t { ended = true })
forget_end_at o true t h = rw h refl
forget_end_at o false t h = rw h refl

pub forgets_twice : {O : Type 0} (o : O) (ts : List (Thread O)) → map (forget o) (map (forget o) ts) ≡ map (forget o) ts
forgets_twice o [] = refl
forgets_twice o (t ∷ ts) =
    ap (λ (x : Thread _). x ∷ map (forget o) (map (forget o) ts)) (forget_twice_at o t.ended t refl) ∙ ap (λ (xs : List (Thread _)). forget o t ∷ xs) (forgets_twice o ts)

pub forgotten_twice : {O : Type 0} (o : O) (p : Pair O) → forgotten o (forgotten o p) ≡ forgotten o p
forgotten_twice o p = ap (λ (ts : List (Thread _)). record p { stand = record p.stand { threads = ts } }) (forgets_twice o p.stand.threads)

pub name_forgotten : {O : Type 0} (o : O) (ts : List (Thread O)) (i : ℕ) → name_in (slice_get (map (forget o) ts) i) ≡ name_in (slice_get ts i)
name_forgotten o [] i = refl
name_forgotten o (t ∷ ts) zero = forget_name o t
name_forgotten o (t ∷ ts) (suc i) = name_forgotten o ts i

-- as many have not ended
pub live_count : {O : Type 0} (o : O) (ts : List (Thread O)) → count_by (λ t. not t.ended) (map (forget o) ts) ≡ count_by (λ t. not t.ended) ts
live_count o ts =
    fold-map (λ (n : ℕ) (t : Thread _). n + cond (not t.ended) 1 0) (forget o) 0 ts
    ∙ (λ i. count_by (λ (t : Thread _). not (forget_ended_at o t.ended t refl i)) ts)

ended_forgotten : {O : Type 0} (o : O) (i : ℕ) (ts : List (Thread O)) →
    map (forget o) (change (λ t. record t { ended = true }) i (map (forget o) ts)) ≡ map (forget o) (change (λ t. record t { ended = true }) i ts)
ended_forgotten o i [] = refl
ended_forgotten o zero (t ∷ ts) =
    ap (λ (x : Thread _). x ∷ map (forget o) (map (forget o) ts)) (forget_end_at o t.ended t refl)
    ∙ ap (λ (xs : List (Thread _)). forget o (record t { ended = true }) ∷ xs) (forgets_twice o ts)
ended_forgotten o (suc i) (t ∷ ts) =
    ap (λ (x : Thread _). x ∷ map (forget o) (change (λ t. record t { ended = true }) i (map (forget o) ts))) (forget_twice_at o t.ended t refl)
    ∙ ap (λ (xs : List (Thread _)). forget o t ∷ xs) (ended_forgotten o i ts)

-- ---- merging

-- what a step of merging makes of a pair is the same where the pair has forgotten
abbrev Forgets : {O : Type 0} → O → (Pair O → Pair O) → Pair O → Type 0
Forgets o f p = forgotten o (f (forgotten o p)) ≡ forgotten o (f p)

then_forgets : {O : Type 0} (o : O) (f g : Pair O → Pair O) (p : Pair O) → Forgets o f p → ((q : Pair O) → Forgets o g q) → Forgets o (λ q. g (f q)) p
then_forgets o f g p h k = sym (k (f (forgotten o p))) ∙ ap (λ (q : Pair _). forgotten o (g q)) h ∙ k (f p)

stays : {O : Type 0} (o : O) (p : Pair O) → Forgets o (λ q. q) p
stays o p = forgotten_twice o p

unless_forgets : {O : Type 0} (o : O) (v : Option Verdict) (f : Pair O → Pair O) (p : Pair O) → Forgets o f p → Forgets o (λ q. unless_at v f q) p
unless_forgets o None f p h = h
unless_forgets o (Some v) f p h = stays o p

if_forgets : {O : Type 0} (o : O) (b : Bool) (f g : Pair O → Pair O) (p : Pair O) → Forgets o f p → Forgets o g p → Forgets o (λ q. if b then f q else g q) p
if_forgets o true f g p h k = h
if_forgets o false f g p h k = k

same_threads : {O : Type 0} (o : O) (q : Pair O) → forgotten o (record q { stand = record q.stand { threads = map (forget o) q.stand.threads } }) ≡ forgotten o q
same_threads o q = forgotten_twice o q

registered_forgets : {O : Type 0} (o : O) (name : List ℕ) (x : O) (p : Pair O) → Forgets o (registered name x) p
registered_forgets o name x p =
    let t : Thread _ = record { name = name; origin = x; replies = []; ended = false } in
    let ts : map (forget o) (map (forget o) p.stand.threads ++ t ∷ []) ≡ map (forget o) (p.stand.threads ++ t ∷ []) =
    map-append (forget o) (map (forget o) p.stand.threads) (t ∷ []) ∙ ap (λ (xs : List (Thread _)). xs ++ t ∷ []) (forgets_twice o p.stand.threads) ∙ sym (map-append (forget o) p.stand.threads (t ∷ [])) in
    rw (length-map p.stand.threads (forget o)) (ap (λ (xs : List (Thread _)). record { stand = record p.stand { threads = xs }; entries = p.entries ++ Runs (length p.stand.threads) ∷ [] }) ts)

effect_forgets : {O : Type 0} (o : O) (at : Place) (x : Effect O) (p : Pair O) → Forgets o (with_effect at x) p
effect_forgets o at (Says t) p = same_threads o (said (trace.Log at t) p)
effect_forgets o at (Enqueue e) p =
    if_forgets o (length p.stand.queue == MOST_WAITING) (stopped verdict.Queue) (λ q. record q { stand = queued e q.stand }) p
    (same_threads o (stopped verdict.Queue p)) (same_threads o (record p { stand = queued e p.stand }))
effect_forgets o at (Register name x) p =
    ap (λ (n : ℕ). forgotten o (if n == MOST_THREADS then stopped verdict.Threads (forgotten o p) else registered name x (forgotten o p))) (length-map p.stand.threads (forget o))
    ∙ if_forgets o (length p.stand.threads == MOST_THREADS) (stopped verdict.Threads) (registered name x) p (same_threads o (stopped verdict.Threads p)) (registered_forgets o name x p)
effect_forgets o at Handler p = stays o p

effects_forgets : {O : Type 0} (o : O) (at : Place) (xs : List (Effect O)) (p : Pair O) → Forgets o (with_effects at xs) p
effects_forgets o at [] p = stays o p
effects_forgets o at (x ∷ xs) p =
    then_forgets o (λ q. unless_at p.stand.verdict (with_effect at x) q) (with_effects at xs) p
    (unless_forgets o p.stand.verdict (with_effect at x) p (effect_forgets o at x p)) (effects_forgets o at xs)

end_forgets : {O : Type 0} (o : O) (n : Entry O) (p : Pair O) → Forgets o (with_end n) p
end_forgets o The_top p = stays o p
end_forgets o (Runs i) p =
    rw (name_forgotten o p.stand.threads i, ended_forgotten o i p.stand.threads) refl
end_forgets o (Stops i b) p =
    rw (name_forgotten o p.stand.threads i) (same_threads o (said (trace.Interrupted (name_in (slice_get p.stand.threads i))) p))

place_forgotten : {O : Type 0} (o : O) (n : Entry O) (s : Stand O) → place_of (forgotten_in o s) n ≡ place_of s n
place_forgotten o The_top s = refl
place_forgotten o (Runs i) s = rw (name_forgotten o s.threads i) refl
place_forgotten o (Stops i b) s = rw (name_forgotten o s.threads i) refl

outcome_forgets : {O S : Type 0} (o : O) (n : Entry O) (x : Outcome S) (p : Pair O) → Forgets o (with_outcome n x) p
outcome_forgets o n (Stopped s) p = stays o p
outcome_forgets o n Ended p = end_forgets o n p
outcome_forgets o n (Broken f l) p = rw (place_forgotten o n p.stand) (same_threads o (stopped (verdict.Fault (place_of p.stand n) l f) p))
outcome_forgets o n (Violated t) p = rw (place_forgotten o n p.stand) (same_threads o (stopped (verdict.Violated (place_of p.stand n) t) p))
outcome_forgets o n Spent p = rw (place_forgotten o n p.stand) (same_threads o (stopped (verdict.Spent (place_of p.stand n)) p))

outcome_forgets_over : {O S : Type 0} (o : O) (n : Entry O) (x : Outcome S) (p : Pair O) → Forgets o (unless_over (with_outcome n x)) p
outcome_forgets_over o n x p = unless_forgets o p.stand.verdict (with_outcome n x) p (outcome_forgets o n x p)

part_forgets : {O S : Type 0} (o : O) (n : Entry O) (x : Part O S) (p : Pair O) → Forgets o (with_part n x) p
part_forgets o n x p =
    rw (place_forgotten o n p.stand)
    (then_forgets o (with_effects (place_of p.stand n) x.effects) (unless_over (with_outcome n x.outcome)) p
    (effects_forgets o (place_of p.stand n) x.effects p) (outcome_forgets_over o n x.outcome))

pub merged_forgets : {O S : Type 0} (o : O) (rs : List (Ran O S)) (p : Pair O) → Forgets o (merged rs) p
merged_forgets o [] p = stays o p
merged_forgets o (r ∷ rs) p =
    then_forgets o (λ q. unless_at p.stand.verdict (with_part r.entry r.part) q) (merged rs) p
    (unless_forgets o p.stand.verdict (with_part r.entry r.part) p (part_forgets o r.entry r.part p)) (merged_forgets o rs)

-- ---- turns

going_body : {O : Type 0} (o : O) (ts : List (Thread O)) (i : ℕ) → ((t : Thread O) → slice_get ts i ≡ Some t → t.ended ≡ false) → own_body (slice_get (map (forget o) ts) i) ≡ own_body (slice_get ts i)
going_body o [] i h = refl
going_body o (t ∷ ts) zero h = let e = h t refl in rw e refl
going_body o (t ∷ ts) (suc i) h = going_body o ts i h

ran_forgotten : {O S : Type 0} (l : Code O S) (o : O) (s : Stand O) (n : Entry O) → IsGoing s.threads n → ran l (forgotten_in o s) n ≡ ran l s n
ran_forgotten l o s The_top h = refl
ran_forgotten l o s (Runs i) h = rw (going_body o s.threads i h) refl
ran_forgotten l o s (Stops i b) h = refl

pub rans_forgotten : {O S : Type 0} (l : Code O S) (o : O) (s : Stand O) (ns : List (Entry O)) → AreGoing s.threads ns → map (ran l (forgotten_in o s)) ns ≡ map (ran l s) ns
rans_forgotten l o s [] h = refl
rans_forgotten l o s (n ∷ ns) h =
    ap (λ (r : Ran _ _). r ∷ map (ran l (forgotten_in o s)) ns) (ran_forgotten l o s n h.0) ∙ ap (λ (rs : List (Ran _ _)). ran l s n ∷ rs) (rans_forgotten l o s ns h.1)

-- a turn of a pair that has forgotten
pub turn_forgotten : {O S : Type 0} (l : Code O S) (o : O) (p : Pair O) → AreGoing p.stand.threads p.entries → forgotten o (turn l (forgotten o p)) ≡ forgotten o (turn l p)
unfolding turn
turn_forgotten l o p h =
    ap (λ (rs : List (Ran _ _)). forgotten o (merged rs (record { stand = forgotten_in o p.stand; entries = [] }))) (rans_forgotten l o p.stand p.entries h)
    ∙ merged_forgets o (map (ran l p.stand) p.entries) (record { stand = p.stand; entries = [] })

-- ---- the turn of a pair that a floor stands for
pub turn_stands : {O S : Type 0} (l : Code O S) (o : O) (taken : List Line) (p q : Pair O) → forgotten o p ≡ before taken q → AreGoing p.stand.threads p.entries →
    forgotten o (turn l p) ≡ before taken (forgotten o (turn l q))
turn_stands l o taken p q h g =
    sym (turn_forgotten l o p g) ∙ ap (λ (x : Pair _). forgotten o (turn l x)) h ∙ ap (λ (x : Pair _). forgotten o x) (before_turn l taken q)
