-- A run whose code gives short texts alone ends in a short verdict.
use Rattle.std.proofs.Common.{◌≡◌, ◌<◌, ℕ, zero, suc, ◌+◌, Bool, true, false, List, [], ◌∷◌, length, Option, Some, None, Ok, Err, map, arith, if◌then◌else◌, ◌==◌, nat_lt}
use Rattle.std.specs.Prelude.{slice_get, option_map}
use Rattle.js_data.specs.Event.{PlainEvent}
use Rattle.js_data.proofs.Shared.{OfSome}
use Rattle.bp_log.specs.Options.{PlainOptions}
use Rattle.bp_log.specs.declared.limits.TheConstants.{MOST_WAITING, MOST_THREADS, MOST_WEIGHT}
use Rattle.bp_log.specs.declared.trace.Line.{Line}
use Rattle.bp_log.specs.declared.verdict.Place.{Place}
use Rattle.bp_log.specs.declared.verdict.Verdict.{Verdict}
use Rattle.bp_log.specs.declared.verdict.Verdict.TheVariants as verdict
use Rattle.bp_run.specs.Bodies.{Code, Part, Effect, Outcome, SetFault}
use Rattle.bp_run.specs.Bodies.Effect.{Says, Enqueue, Register, Handler}
use Rattle.bp_run.specs.Bodies.Outcome.{Stopped, Ended, Broken, Violated, Spent}
use Rattle.bp_run.specs.Bodies.SetFault.{Broken as Set_broken, Spent as Set_spent, NotTruth}
use Rattle.bp_run.specs.Configuration.{Configuration, Stand, Thread, change, name_in}
use Rattle.bp_run.specs.Settling.{Body, Entry, Pair, Ran, own_body, body_of, part_of, place_of, ran, unless_at, unless_over, stopped, said, queued, registered, ended, with_effect, with_effects, with_end, with_outcome, with_part, merged, turn, at_rest, settle_in, settle, opening, initial}
use Rattle.bp_run.specs.Settling.Entry.{The_top, Runs, Stops}
use Rattle.bp_run.specs.Selecting.{Asked, live}
use Rattle.bp_run.specs.Choosing.{Choice, choice, Touched, reach}
use Rattle.bp_run.specs.Choosing.Touched.{Moves, Interrupts}
use Rattle.bp_run.specs.Story.{Next, next, next_unless, next_choice, next_chosen, next_idle, waits_for_none, set_verdict, touch, touch_all, step, handler_body, entry_of, stepped, move, weight_after}
use Rattle.bp_run.specs.Story.Next.{Ends, Selects, Waits}
use Rattle.bp_records.proofs.Lists.{Each, each_append, each_get, each_map}
use Rattle.bp_records.proofs.Short.{IsShortText, IsLight}
use Rattle.bp_records.proofs.Verdicts.{IsShortPlace, IsShortVerdict}

each_change : {A : Type 0} (P : A → Type 0) (f : A → A) → ((x : A) → P x → P (f x)) → (i : ℕ) (xs : List A) → Each P xs → Each P (change f i xs)
each_change P f k i [] h = tt
each_change P f k zero (x ∷ xs) h = (k x h.0, h.1)
each_change P f k (suc i) (x ∷ xs) h = (h.0, each_change P f k i xs h.1)

-- ---- what is short: P is what the origins of bodies meet

pub record ShortThread {O : Type 0} (P : O → Type 0) (t : Thread O) : Type 0 where
  pub name : IsShortText t.name
  pub origin : P t.origin
  pub replies : Each IsLight t.replies

pub record ShortStand {O : Type 0} (most : ℕ) (P : O → Type 0) (s : Stand O) : Type 0 where
  pub threads : Each (ShortThread P) s.threads
  pub verdict : OfSome (IsShortVerdict most) s.verdict

abbrev pub ShortEffect : {O : Type 0} → (O → Type 0) → Effect O → Type 0
ShortEffect P (Says text) = Unit {0}
ShortEffect P (Enqueue e) = Unit {0}
ShortEffect P (Register name o) = IsShortText name × P o
ShortEffect P Handler = Unit {0}

abbrev pub ShortOutcome : {S : Type 0} → Outcome S → Type 0
ShortOutcome (Violated t) = IsShortText t
ShortOutcome _ = Unit {0}

pub record ShortPart {O S : Type 0} (P : O → Type 0) (x : Part O S) : Type 0 where
  pub effects : Each (ShortEffect P) x.effects
  pub outcome : ShortOutcome x.outcome

pub record ShortCode {O S : Type 0} (P : O → Type 0) (l : Code O S) : Type 0 where
  pub top : P l.top
  pub after : (o : O) (replies : List PlainEvent) → P o → Each IsLight replies → ShortPart P (l.after o replies)
  pub handling : (o : O) (replies : List PlainEvent) (e : PlainEvent) → P o → Each IsLight replies → IsLight e → OfSome P (l.handling o replies e)

record ShortBody {O : Type 0} (P : O → Type 0) (b : Body O) : Type 0 where
  origin : P b.origin
  replies : Each IsLight b.replies

abbrev ShortEntry : {O : Type 0} → (O → Type 0) → Entry O → Type 0
ShortEntry P The_top = Unit {0}
ShortEntry P (Runs i) = Unit {0}
ShortEntry P (Stops i b) = OfSome (ShortBody P) b

record ShortPair {O : Type 0} (most : ℕ) (P : O → Type 0) (p : Pair O) : Type 0 where
  stand : ShortStand most P p.stand
  entries : Each (ShortEntry P) p.entries

abbrev ShortRan : {O S : Type 0} → (O → Type 0) → Ran O S → Type 0
ShortRan P r = ShortPart P r.part

pub record ShortConfiguration {O : Type 0} (most : ℕ) (P : O → Type 0) (c : Configuration O) : Type 0 where
  pub stand : ShortStand most P c.stand
  pub bad : OfSome (λ b. b.0 < most) c.bad

abbrev pub ShortNext : ℕ → Next → Type 0
ShortNext most (Ends v) = IsShortVerdict most v
ShortNext most _ = Unit {0}

module _ {O : Type 0} (most : ℕ) (P : O → Type 0) where
  name_of_short : (t : Option (Thread O)) → OfSome (ShortThread P) t → IsShortText (name_in t)
  name_of_short None h = omega arith
  name_of_short (Some t) h = h.name

  name_short : (s : Stand O) (i : ℕ) → ShortStand most P s → IsShortText (name_in (slice_get s.threads i))
  name_short s i h = name_of_short (slice_get s.threads i) (each_get (ShortThread P) s.threads i h.threads)

  place_short : (s : Stand O) (n : Entry O) → ShortStand most P s → IsShortPlace (place_of s n)
  place_short s The_top h = tt
  place_short s (Runs i) h = name_short s i h
  place_short s (Stops i b) h = name_short s i h

  -- ---- merging

  stopped_short : (v : Verdict) (p : Pair O) → IsShortVerdict most v → ShortPair most P p → ShortPair most P (stopped v p)
  stopped_short v p k h = record { stand = record { threads = h.stand.threads; verdict = k }; entries = h.entries }

  said_short : (line : Line) (p : Pair O) → ShortPair most P p → ShortPair most P (said line p)
  said_short line p h = record { stand = record { threads = h.stand.threads; verdict = h.stand.verdict }; entries = h.entries }

  if_short : (b : Bool) (p q : Pair O) → ShortPair most P p → ShortPair most P q → ShortPair most P (if b then p else q)
  if_short true p q h k = h
  if_short false p q h k = k

  unless_short : (v : Option Verdict) (f : Pair O → Pair O) (p : Pair O) → ShortPair most P p → ShortPair most P (f p) → ShortPair most P (unless_at v f p)
  unless_short None f p h k = k
  unless_short (Some v) f p h k = h

  queued_short : (e : PlainEvent) (p : Pair O) → ShortPair most P p → ShortPair most P (record p { stand = queued e p.stand })
  queued_short e p h = record { stand = record { threads = h.stand.threads; verdict = h.stand.verdict }; entries = h.entries }

  registered_short : (name : List ℕ) (o : O) (p : Pair O) → IsShortText name → P o → ShortPair most P p → ShortPair most P (registered name o p)
  registered_short name o p k m h = record {
    stand = record {
      threads = each_append (ShortThread P) p.stand.threads (record { name = name; origin = o; replies = []; ended = false } ∷ []) h.stand.threads (record { name = k; origin = m; replies = tt }, tt);
      verdict = h.stand.verdict;
    };
    entries = each_append (ShortEntry P) p.entries (Runs (length p.stand.threads) ∷ []) h.entries (tt, tt);
  }

  effect_short : (at : Place) (x : Effect O) (p : Pair O) → ShortEffect P x → ShortPair most P p → ShortPair most P (with_effect at x p)
  effect_short at (Says t) p k h = said_short _ p h
  effect_short at (Enqueue e) p k h =
      if_short (length p.stand.queue == MOST_WAITING) (stopped verdict.Queue p) (record p { stand = queued e p.stand }) (stopped_short verdict.Queue p tt h) (queued_short e p h)
  effect_short at (Register name o) p k h =
      if_short (length p.stand.threads == MOST_THREADS) (stopped verdict.Threads p) (registered name o p) (stopped_short verdict.Threads p tt h) (registered_short name o p k.0 k.1 h)
  effect_short at Handler p k h = h

  effects_short : (at : Place) (xs : List (Effect O)) (p : Pair O) → Each (ShortEffect P) xs → ShortPair most P p → ShortPair most P (with_effects at xs p)
  effects_short at [] p k h = h
  effects_short at (x ∷ xs) p k h =
      effects_short at xs (unless_over (with_effect at x) p) k.1 (unless_short p.stand.verdict (with_effect at x) p h (effect_short at x p k.0 h))

  ended_short : (i : ℕ) (s : Stand O) → ShortStand most P s → ShortStand most P (ended i s)
  ended_short i s h = record {
    threads = each_change (ShortThread P) _ (λ t k. record { name = k.name; origin = k.origin; replies = k.replies }) i s.threads h.threads;
    verdict = h.verdict;
  }

  end_short : (n : Entry O) (p : Pair O) → ShortPair most P p → ShortPair most P (with_end n p)
  end_short The_top p h = h
  end_short (Runs i) p h = record { stand = ended_short i _ (said_short _ p h).stand; entries = h.entries }
  end_short (Stops i b) p h = said_short _ p h

module _ {O S : Type 0} (most : ℕ) (P : O → Type 0) where
  outcome_short : (n : Entry O) (x : Outcome S) (p : Pair O) → ShortOutcome x → ShortPair most P p → ShortPair most P (with_outcome n x p)
  outcome_short n (Stopped s) p k h = h
  outcome_short n Ended p k h = end_short most P n p h
  outcome_short n (Broken f l) p k h = stopped_short most P (verdict.Fault (place_of p.stand n) l f) p (place_short most P p.stand n h.stand) h
  outcome_short n (Violated t) p k h = stopped_short most P (verdict.Violated (place_of p.stand n) t) p (place_short most P p.stand n h.stand, k) h
  outcome_short n Spent p k h = stopped_short most P (verdict.Spent (place_of p.stand n)) p (place_short most P p.stand n h.stand) h

  part_short : (n : Entry O) (x : Part O S) (p : Pair O) → ShortPart P x → ShortPair most P p → ShortPair most P (with_part n x p)
  part_short n x p k h =
      let q = with_effects (place_of p.stand n) x.effects p in
      let m : ShortPair most P q = effects_short most P (place_of p.stand n) x.effects p k.effects h in
      unless_short most P q.stand.verdict (with_outcome n x.outcome) q m (outcome_short n x.outcome q k.outcome m)

  merged_short : (rs : List (Ran O S)) (p : Pair O) → Each (ShortRan P) rs → ShortPair most P p → ShortPair most P (merged rs p)
  merged_short [] p k h = h
  merged_short (r ∷ rs) p k h =
      merged_short rs (unless_over (with_part r.entry r.part) p) k.1 (unless_short most P p.stand.verdict (with_part r.entry r.part) p h (part_short r.entry r.part p k.0 h))

  -- ---- turns, with the code of a run

  module _ (l : Code O S) (short : ShortCode P l) where
    body_short : (b : Option (Body O)) → OfSome (ShortBody P) b → ShortPart P (part_of l b)
    body_short None h = record { effects = tt; outcome = tt }
    body_short (Some b) h = short.after b.origin b.replies h.origin h.replies

    own_short : (t : Option (Thread O)) → OfSome (ShortThread P) t → OfSome (ShortBody P) (own_body t)
    own_short None h = tt
    own_short (Some t) h = record { origin = h.origin; replies = h.replies }

    entry_body_short : (s : Stand O) (n : Entry O) → ShortStand most P s → ShortEntry P n → OfSome (ShortBody P) (body_of l s n)
    entry_body_short s The_top h k = record { origin = short.top; replies = tt }
    entry_body_short s (Runs i) h k = own_short (slice_get s.threads i) (each_get (ShortThread P) s.threads i h.threads)
    entry_body_short s (Stops i b) h k = k

    turn_short : (p : Pair O) → ShortPair most P p → ShortPair most P (turn l p)
    unfolding turn
    turn_short p h =
        merged_short (map (ran l p.stand) p.entries) (record { stand = p.stand; entries = [] })
        (each_map (ShortEntry P) (ShortRan P) (ran l p.stand) (λ n k. body_short (body_of l p.stand n) (entry_body_short p.stand n h.stand k)) p.entries h.entries)
        (record { stand = h.stand; entries = tt })

    settle_at : (n : ℕ) (p : Pair O) (b : Bool) → at_rest p ≡ b → ShortStand most P p.stand → ShortStand most P (settle_in l n (turn l p)) → ShortStand most P (settle_in l (suc n) p)
    unfolding settle_in
    settle_at n p true e h k = rw (settle_in, e) h
    settle_at n p false e h k = rw (settle_in, e) k

    settle_in_short : (n : ℕ) (p : Pair O) → ShortPair most P p → ShortStand most P (settle_in l n p)
    unfolding settle_in
    settle_in_short zero p h = h.stand
    settle_in_short (suc n) p h = settle_at n p (at_rest p) refl_rest h.stand (settle_in_short n (turn l p) (turn_short p h))
      where
        refl_rest : at_rest p ≡ at_rest p
        refl_rest = λ i. at_rest p

    settle_short : (p : Pair O) → ShortPair most P p → ShortStand most P (settle l p)
    unfolding settle
    settle_short p h = settle_in_short (MOST_THREADS + 1) p h

    pub initial_short : (n : ℕ) → ShortConfiguration most P (initial l n)
    unfolding initial
    initial_short n = record { stand = settle_short opening (record { stand = record { threads = tt; verdict = tt }; entries = (tt, tt) }); bad = tt }

    -- ---- transitions

    touch_short : (e : PlainEvent) (n : Touched) (ts : List (Thread O)) → IsLight e → Each (ShortThread P) ts → Each (ShortThread P) (touch e n ts)
    touch_short e (Moves i) ts k h =
        each_change (ShortThread P) _ (λ t m. record { name = m.name; origin = m.origin; replies = each_append IsLight t.replies (e ∷ []) m.replies (k, tt) }) i ts h
    touch_short e (Interrupts i) ts k h = each_change (ShortThread P) _ (λ t m. record { name = m.name; origin = m.origin; replies = m.replies }) i ts h

    touch_all_short : (e : PlainEvent) (ns : List Touched) (ts : List (Thread O)) → IsLight e → Each (ShortThread P) ts → Each (ShortThread P) (touch_all e ns ts)
    touch_all_short e [] ts k h = h
    touch_all_short e (n ∷ ns) ts k h = touch_all_short e ns (touch e n ts) k (touch_short e n ts k h)

    step_short : (s : Stand O) (e : PlainEvent) (place : Option ℕ) (reached : List Touched) → IsLight e → ShortStand most P s → ShortStand most P (step s e place reached)
    unfolding step
    step_short s e place reached k h = record { threads = touch_all_short e reached s.threads k h.threads; verdict = h.verdict }

    handled_short : (o : Option O) → OfSome P o → OfSome (ShortBody P) (option_map (λ q. record { origin = q; replies = [] }) o)
    handled_short None h = tt
    handled_short (Some q) h = record { origin = h; replies = tt }

    handler_short : (e : PlainEvent) (t : Option (Thread O)) → IsLight e → OfSome (ShortThread P) t → OfSome (ShortBody P) (handler_body l e t)
    handler_short e None k h = tt
    handler_short e (Some t) k h = handled_short (l.handling t.origin t.replies e) (short.handling t.origin t.replies e h.origin h.replies k)

    entry_short : (s : Stand O) (e : PlainEvent) (n : Touched) → IsLight e → ShortStand most P s → ShortEntry P (entry_of l s e n)
    entry_short s e (Moves i) k h = tt
    entry_short s e (Interrupts i) k h = handler_short e (slice_get s.threads i) k (each_get (ShortThread P) s.threads i h.threads)

    entries_short : (s : Stand O) (e : PlainEvent) (ns : List Touched) → IsLight e → ShortStand most P s → Each (ShortEntry P) (map (entry_of l s e) ns)
    entries_short s e [] k h = tt
    entries_short s e (n ∷ ns) k h = (entry_short s e n k h, entries_short s e ns k h)

    pub move_short : (c : Configuration O) (ch : Choice) (reached : List Touched) → IsLight ch.event → ShortConfiguration most P c → ShortConfiguration most P (move l c ch reached)
    move_short c ch reached k h = record {
      stand = settle_short (stepped l c.stand ch.event ch.place reached) (record { stand = step_short c.stand ch.event ch.place reached k h.stand; entries = entries_short c.stand ch.event reached k h.stand });
      bad = h.bad;
    }

    -- ---- what comes next

    if_next : (b : Bool) (x y : Next) → ShortNext most x → ShortNext most y → ShortNext most (if b then x else y)
    if_next true x y h k = h
    if_next false x y h k = k

    fault_short : (name : List ℕ) (f : SetFault) → IsShortText name → IsShortVerdict most (set_verdict name f)
    fault_short name (Set_broken f line) h = h
    fault_short name Set_spent h = h
    fault_short name (NotTruth line) h = h

    chosen_short : (s : Stand O) (ch : Choice) (x : Asked (List Touched)) → ShortStand most P s → ShortNext most (next_chosen s ch x)
    chosen_short s ch (Err x) h = fault_short (name_in (slice_get s.threads x.0)) x.1 (name_short most P s x.0 h)
    chosen_short s ch (Ok reached) h = if_next (nat_lt MOST_WEIGHT (weight_after s ch.event reached)) (Ends verdict.Weight) (Selects ch reached) tt tt

    idle_short : (o : PlainOptions) (c : Configuration O) (b : Option (ℕ × ℕ)) → OfSome (λ x. x.0 < most) b → ShortNext most (next_idle o c b)
    idle_short o c (Some x) e = e
    idle_short o c None e =
        if_next (length c.stand.queue == MOST_WAITING) (Ends verdict.Queue) (if waits_for_none o c then Ends (verdict.Quiet c.stand.transitions) else Waits) tt
        (if_next (waits_for_none o c) (Ends (verdict.Quiet c.stand.transitions)) Waits tt tt)

    choice_short : (o : PlainOptions) (c : Configuration O) (x : Asked (Option Choice)) → ShortConfiguration most P c → ShortNext most (next_choice l o c x)
    choice_short o c (Err x) h = fault_short (name_in (slice_get c.stand.threads x.0)) x.1 (name_short most P c.stand x.0 h.stand)
    choice_short o c (Ok None) h = idle_short o c c.bad h.bad
    choice_short o c (Ok (Some ch)) h =
        if_next (c.stand.transitions == o.steps) (Ends (verdict.Steps o.steps)) (next_chosen c.stand ch (reach l.has ch.event (live l c.stand))) tt
        (chosen_short c.stand ch (reach l.has ch.event (live l c.stand)) h.stand)

    unless_next_short : (o : PlainOptions) (c : Configuration O) (v : Option Verdict) → OfSome (IsShortVerdict most) v → ShortConfiguration most P c → ShortNext most (next_unless l o c v)
    unless_next_short o c (Some v) k h = k
    unless_next_short o c None k h = choice_short o c (choice l.has l.word o.strategy (live l c.stand) c.stand.queue c.drawn) h

    pub next_short : (o : PlainOptions) (c : Configuration O) → ShortConfiguration most P c → ShortNext most (next l o c)
    unfolding next
    next_short o c h = unless_next_short o c c.stand.verdict h.stand.verdict h
