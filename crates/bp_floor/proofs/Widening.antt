-- Merging takes no b-thread away, and reads nothing that is stated.
use Rattle.std.proofs.Common.{◌≡◌, ℕ, ◌≤◌, Bool, true, false, List, [], ◌∷◌, length, map, refl, ap, ◌∙◌, arith, Option, Some, None, if◌then◌else◌, ◌==◌, length-append}
use Rattle.bp_log.specs.declared.limits.TheConstants.{MOST_WAITING, MOST_THREADS}
use Rattle.bp_log.specs.declared.verdict.Verdict.{Verdict}
use Rattle.bp_log.specs.declared.verdict.Verdict.TheVariants as verdict
use Rattle.bp_log.specs.declared.verdict.Place.{Place}
use Rattle.bp_run.specs.Bodies.{Part, Effect, Outcome}
use Rattle.bp_run.specs.Bodies.Effect.{Says, Enqueue, Register, Handler}
use Rattle.bp_run.specs.Bodies.Outcome.{Stopped, Ended, Broken, Violated, Spent}
use Rattle.bp_run.specs.Settling.{Entry, Pair, Ran, unless_at, unless_over, stopped, queued, registered, with_effect, with_effects, with_end, with_outcome, with_part, merged, place_of}
use Rattle.bp_run.specs.Settling.Entry.{The_top, Runs, Stops}
use Rattle.bp_run.proofs.Turns.{length-change}
use Rattle.bp_floor.specs.inner.Parts.{unstated, unstated_part, unstated_ran}
use Rattle.bp_floor.specs.inner.Kept.{IsBelow}

pub record Wider {O : Type 0} (p q : Pair O) : Type 0 where
  pub threads : length p.stand.threads ≤ length q.stand.threads

wider_same : {O : Type 0} (p q : Pair O) → length q.stand.threads ≡ length p.stand.threads → Wider p q
wider_same p q h = record { threads = omega (arith, h) }

wider_trans : {O : Type 0} (p q r : Pair O) → Wider p q → Wider q r → Wider p r
wider_trans p q r a b = let x = a.threads in let y = b.threads in record { threads = omega (arith, x, y) }

wider_unless : {O : Type 0} (v : Option Verdict) (f : Pair O → Pair O) (p : Pair O) → Wider p (f p) → Wider p (unless_at v f p)
wider_unless None f p g = g
wider_unless (Some v) f p g = wider_same p p refl

wider_if : {O : Type 0} (c : Pair O) (b : Bool) (p q : Pair O) → Wider c p → Wider c q → Wider c (if b then p else q)
wider_if c true p q g h = g
wider_if c false p q g h = h

wider_registered : {O : Type 0} (name : List ℕ) (o : O) (p : Pair O) → Wider p (registered name o p)
wider_registered name o p =
    let more = length-append p.stand.threads (record { name = name; origin = o; replies = []; ended = false } ∷ []) in
    record { threads = omega (arith, more) }

wider_effect : {O : Type 0} (at : Place) (x : Effect O) (p : Pair O) → Wider p (with_effect at x p)
wider_effect at (Says t) p = wider_same p (with_effect at (Says t) p) refl
wider_effect at (Enqueue e) p =
    wider_if p (length p.stand.queue == MOST_WAITING) (stopped verdict.Queue p) (record p { stand = queued e p.stand })
    (wider_same p (stopped verdict.Queue p) refl) (wider_same p (record p { stand = queued e p.stand }) refl)
wider_effect at (Register name o) p =
    wider_if p (length p.stand.threads == MOST_THREADS) (stopped verdict.Threads p) (registered name o p) (wider_same p (stopped verdict.Threads p) refl) (wider_registered name o p)
wider_effect at Handler p = wider_same p p refl

pub wider_effects : {O : Type 0} (at : Place) (xs : List (Effect O)) (p : Pair O) → Wider p (with_effects at xs p)
wider_effects at [] p = wider_same p p refl
wider_effects at (x ∷ xs) p =
    wider_trans p (unless_over (with_effect at x) p) (with_effects at xs (unless_over (with_effect at x) p))
    (wider_unless p.stand.verdict (with_effect at x) p (wider_effect at x p)) (wider_effects at xs (unless_over (with_effect at x) p))

wider_end : {O : Type 0} (n : Entry O) (p : Pair O) → Wider p (with_end n p)
wider_end The_top p = wider_same p p refl
wider_end (Runs i) p = wider_same p (with_end (Runs i) p) (length-change (λ t. record t { ended = true }) i p.stand.threads)
wider_end (Stops i e) p = wider_same p (with_end (Stops i e) p) refl

wider_outcome : {O S : Type 0} (n : Entry O) (x : Outcome S) (p : Pair O) → Wider p (with_outcome n x p)
wider_outcome n (Stopped s) p = wider_same p p refl
wider_outcome n Ended p = wider_end n p
wider_outcome {O} {S} n (Broken f l) p = wider_same p (with_outcome {Origin = O} {Set = S} n (Broken f l) p) refl
wider_outcome {O} {S} n (Violated t) p = wider_same p (with_outcome {Origin = O} {Set = S} n (Violated t) p) refl
wider_outcome {O} {S} n Spent p = wider_same p (with_outcome {Origin = O} {Set = S} n Spent p) refl

pub wider_part : {O S : Type 0} (n : Entry O) (x : Part O S) (p : Pair O) → Wider p (unless_over (with_part n x) p)
wider_part n x p =
    let q = with_effects (place_of p.stand n) x.effects p in
    wider_unless p.stand.verdict (with_part n x) p
    (wider_trans p q (with_part n x p) (wider_effects (place_of p.stand n) x.effects p)
    (wider_unless q.stand.verdict (with_outcome n x.outcome) q (wider_outcome n x.outcome q)))

pub below_more : {O : Type 0} (n m : ℕ) (e : Entry O) → n ≤ m → IsBelow n e → IsBelow m e
below_more n m The_top h k = k
below_more n m (Runs i) h k = omega (arith, h, k)
below_more n m (Stops i e) h k = omega (arith, h, k)

-- ---- what is stated is not read

outcome_unstated : {O S : Type 0} (n : Entry O) (x : Outcome S) (p : Pair O) → with_outcome n (unstated x) p ≡ with_outcome n x p
outcome_unstated n (Stopped s) p = refl
outcome_unstated n Ended p = refl
outcome_unstated n (Broken f l) p = refl
outcome_unstated n (Violated t) p = refl
outcome_unstated n Spent p = refl

unless_same : {O : Type 0} (v : Option Verdict) (f g : Pair O → Pair O) (p : Pair O) → f p ≡ g p → unless_at v f p ≡ unless_at v g p
unless_same None f g p h = h
unless_same (Some v) f g p h = refl

part_unstated : {O S : Type 0} (n : Entry O) (x : Part O S) (p : Pair O) → unless_over (with_part n (unstated_part x)) p ≡ unless_over (with_part n x) p
part_unstated n x p =
    let q = with_effects (place_of p.stand n) x.effects p in
    unless_same p.stand.verdict (with_part n (unstated_part x)) (with_part n x) p
    (unless_same q.stand.verdict (with_outcome n (unstated x.outcome)) (with_outcome n x.outcome) q (outcome_unstated n x.outcome q))

pub merged_unstated : {O S : Type 0} (rs : List (Ran O S)) (p : Pair O) → merged (map unstated_ran rs) p ≡ merged rs p
merged_unstated [] p = refl
merged_unstated (r ∷ rs) p = ap (λ (q : Pair _). merged (map unstated_ran rs) q) (part_unstated r.entry r.part p) ∙ merged_unstated rs (unless_over (with_part r.entry r.part) p)
