-- Merging only adds lines and events that wait, and leaves what was counted as it is.
use Rattle.std.proofs.lemmas.Bool.{eq-eqb, false≢true}
use Rattle.std.proofs.Common.{◌≡◌, ◌≤◌, arith, length-append, ◌+◌, ℕ, zero, suc, Bool, true, false, List, [], ◌∷◌, ◌++◌, length, refl, sym, ap, ◌∙◌, append_assoc, append-nil, Option, Some, None, if◌then◌else◌, ◌==◌, map}
use Rattle.std.proofs.lemmas.Option.{same_Some}
use Rattle.js_data.specs.Event.{PlainEvent}
use Rattle.bp_log.specs.declared.limits.TheConstants.{MOST_WAITING, MOST_THREADS}
use Rattle.bp_log.specs.declared.trace.Line.{Line}
use Rattle.bp_log.specs.declared.trace.Line.TheVariants as trace
use Rattle.bp_log.specs.declared.verdict.Verdict.{Verdict}
use Rattle.bp_log.specs.declared.verdict.Verdict.TheVariants as verdict
use Rattle.bp_log.specs.declared.verdict.Place.{Place}
use Rattle.bp_run.specs.Bodies.{Code, Part, Effect, Outcome}
use Rattle.bp_run.specs.Bodies.Effect.{Says, Enqueue, Register, Handler}
use Rattle.bp_run.specs.Bodies.Outcome.{Stopped, Ended, Broken, Violated, Spent}
use Rattle.bp_run.specs.Configuration.{Stand}
use Rattle.bp_run.specs.Settling.{Entry, Pair, Ran, ran, unless_at, unless_over, stopped, said, queued, registered, with_effect, with_effects, with_end, with_outcome, with_part, merged, turn, at_rest, settle_in, settle, place_of}
use Rattle.bp_run.specs.Settling.Entry.{The_top, Runs, Stops}

pub record Grown {Origin : Type 0} (c d : Stand Origin) : Type 0 where
  pub more : List Line
  pub lines : d.lines ≡ c.lines ++ more
  pub transitions : d.transitions ≡ c.transitions
  pub weight : d.weight ≡ c.weight
  -- the queue is longer by some events, and no longer than it may be
  pub longer : length c.queue ≤ length d.queue
  pub room : length c.queue ≤ MOST_WAITING → length d.queue ≤ MOST_WAITING
  -- no verdict of merging is `quiet`
  pub quiet : (n : ℕ) → d.verdict ≡ Some (verdict.Quiet n) → c.verdict ≡ Some (verdict.Quiet n)

pub grown_refl : {O : Type 0} (c : Stand O) → Grown c c
grown_refl c = record { more = []; lines = sym (append-nil c.lines); transitions = refl; weight = refl; longer = omega arith; room = λ h. h; quiet = λ n h. h }

pub grown_trans : {O : Type 0} (c d e : Stand O) → Grown c d → Grown d e → Grown c e
grown_trans c d e g h =
    record {
      more = g.more ++ h.more;
      lines = h.lines ∙ ap (λ (r : List Line). r ++ h.more) g.lines ∙ append_assoc c.lines g.more h.more;
      transitions = h.transitions ∙ g.transitions;
      weight = h.weight ∙ g.weight;
      longer = omega (arith, g.longer, h.longer);
      room = λ r. h.room (g.room r);
      quiet = λ n v. g.quiet n (h.quiet n v);
    }

grown_said : {O : Type 0} (line : Line) (p : Pair O) → Grown p.stand (said line p).stand
grown_said line p = record { more = line ∷ []; lines = refl; transitions = refl; weight = refl; longer = omega arith; room = λ h. h; quiet = λ n h. h }

grown_stopped : {O : Type 0} (v : Verdict) (p : Pair O) → ((n : ℕ) → v ≡ verdict.Quiet n → ⊥) → Grown p.stand (stopped v p).stand
grown_stopped v p loud = record {
  more = [];
  lines = sym (append-nil p.stand.lines);
  transitions = refl;
  weight = refl;
  longer = omega arith;
  room = λ h. h;
  quiet = λ n h. absurd (loud n (same_Some v (verdict.Quiet n) h));
}

grown_queue : {O : Type 0} (e : PlainEvent) (p : Pair O) (b : Bool) → (length p.stand.queue == MOST_WAITING) ≡ b →
    Grown p.stand (if b then stopped verdict.Queue p else record p { stand = queued e p.stand }).stand
grown_queue e p true h = grown_stopped verdict.Queue p (λ n k. cc)
grown_queue e p false h =
    let longer = length-append p.stand.queue (e ∷ []) in
    let other : length p.stand.queue ≡ MOST_WAITING → ⊥ = λ k. false≢true (sym h ∙ eq-eqb (length p.stand.queue) MOST_WAITING k) in
    record {
      more = [];
      lines = sym (append-nil p.stand.lines);
      transitions = refl;
      weight = refl;
      longer = omega (arith, longer);
      room = λ r. omega (arith, longer, r, other);
      quiet = λ n k. k;
    }

grown_if : {O : Type 0} (c : Stand O) (b : Bool) (p q : Pair O) → Grown c p.stand → Grown c q.stand → Grown c (if b then p else q).stand
grown_if c true p q g h = g
grown_if c false p q g h = h

grown_unless : {O : Type 0} (v : Option Verdict) (f : Pair O → Pair O) (p : Pair O) → Grown p.stand (f p).stand → Grown p.stand (unless_at v f p).stand
grown_unless None f p g = g
grown_unless (Some v) f p g = grown_refl p.stand

grown_effect : {O : Type 0} (at : Place) (x : Effect O) (p : Pair O) → Grown p.stand (with_effect at x p).stand
grown_effect at (Says t) p = grown_said (trace.Log at t) p
grown_effect at (Enqueue e) p = grown_queue e p (length p.stand.queue == MOST_WAITING) refl
grown_effect at (Register name o) p =
    grown_if p.stand (length p.stand.threads == MOST_THREADS) (stopped verdict.Threads p) (registered name o p) (grown_stopped verdict.Threads p (λ n k. cc))
    (record { more = []; lines = sym (append-nil p.stand.lines); transitions = refl; weight = refl; longer = omega arith; room = λ h. h; quiet = λ n h. h })
grown_effect at Handler p = grown_refl p.stand

grown_effects : {O : Type 0} (at : Place) (xs : List (Effect O)) (p : Pair O) → Grown p.stand (with_effects at xs p).stand
grown_effects at [] p = grown_refl p.stand
grown_effects at (x ∷ xs) p =
    grown_trans p.stand (unless_over (with_effect at x) p).stand (with_effects at xs (unless_over (with_effect at x) p)).stand
    (grown_unless p.stand.verdict (with_effect at x) p (grown_effect at x p))
    (grown_effects at xs (unless_over (with_effect at x) p))

grown_end : {O : Type 0} (n : Entry O) (p : Pair O) → Grown p.stand (with_end n p).stand
grown_end The_top p = grown_refl p.stand
grown_end (Runs i) p = record { more = _; lines = refl; transitions = refl; weight = refl; longer = omega arith; room = λ h. h; quiet = λ n h. h }
grown_end (Stops i b) p = record { more = _; lines = refl; transitions = refl; weight = refl; longer = omega arith; room = λ h. h; quiet = λ n h. h }

grown_outcome : {O S : Type 0} (n : Entry O) (x : Outcome S) (p : Pair O) → Grown p.stand (with_outcome n x p).stand
grown_outcome n (Stopped s) p = grown_refl p.stand
grown_outcome n Ended p = grown_end n p
grown_outcome n (Broken f l) p = grown_stopped _ p (λ m k. cc)
grown_outcome n (Violated t) p = grown_stopped _ p (λ m k. cc)
grown_outcome n Spent p = grown_stopped _ p (λ m k. cc)

grown_part : {O S : Type 0} (n : Entry O) (x : Part O S) (p : Pair O) → Grown p.stand (with_part n x p).stand
grown_part n x p =
    let q = with_effects (place_of p.stand n) x.effects p in
    grown_trans p.stand q.stand (with_part n x p).stand (grown_effects (place_of p.stand n) x.effects p)
    (grown_unless q.stand.verdict (with_outcome n x.outcome) q (grown_outcome n x.outcome q))

grown_merged : {O S : Type 0} (rs : List (Ran O S)) (p : Pair O) → Grown p.stand (merged rs p).stand
grown_merged [] p = grown_refl p.stand
grown_merged (r ∷ rs) p =
    let f = with_part r.entry r.part in
    grown_trans p.stand (unless_over f p).stand (merged rs (unless_over f p)).stand
    (grown_unless p.stand.verdict f p (grown_part r.entry r.part p)) (grown_merged rs (unless_over f p))

pub grown_turn : {O S : Type 0} (l : Code O S) (p : Pair O) → Grown p.stand (turn l p).stand
unfolding turn
grown_turn l p = grown_merged (map (ran l p.stand) p.entries) (record { stand = p.stand; entries = [] })

settle_at : {O S : Type 0} (l : Code O S) (n : ℕ) (p : Pair O) (b : Bool) → at_rest p ≡ b → Grown (turn l p).stand (settle_in l n (turn l p)) → Grown p.stand (settle_in l (suc n) p)
unfolding settle_in
settle_at l n p true h g = rw (settle_in, h) (grown_refl p.stand)
settle_at l n p false h g = rw (settle_in, h) (grown_trans p.stand (turn l p).stand (settle_in l n (turn l p)) (grown_turn l p) g)

pub grown_settle_in : {O S : Type 0} (l : Code O S) (n : ℕ) (p : Pair O) → Grown p.stand (settle_in l n p)
unfolding settle_in
grown_settle_in l zero p = grown_refl p.stand
grown_settle_in l (suc n) p = settle_at l n p (at_rest p) refl (grown_settle_in l n (turn l p))

-- settling adds lines and events that wait, and leaves what was counted as it is
pub grown_settle : {O S : Type 0} (l : Code O S) (p : Pair O) → Grown p.stand (settle l p)
unfolding settle
grown_settle l p = grown_settle_in l (MOST_THREADS + 1) p
