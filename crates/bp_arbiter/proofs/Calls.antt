-- B-threads and handlers run calls, whatever happens.
use Rattle.std.proofs.Common.{◌≡◌, ℕ, zero, suc, Bool, true, false, List, [], ◌∷◌, ◌++◌, length, map, refl, sym, ap, ◌∙◌, subst, Option, Some, None, option_map, if◌then◌else◌, ◌==◌, slice_get}
use Rattle.js_data.specs.Event.{PlainEvent}
use Rattle.js_value.specs.Value.{PlainValue}
use Rattle.js_program.specs.PlainProgram.{PlainProgram}
use Rattle.js_meaning.specs.State as js
use Rattle.js_meaning.specs.Bodies.{Origin}
use Rattle.bp_log.specs.Options.{PlainOptions}
use Rattle.bp_log.specs.declared.limits.TheConstants.{MOST_WAITING, MOST_THREADS}
use Rattle.bp_log.specs.declared.verdict.Verdict.{Verdict}
use Rattle.bp_log.specs.declared.verdict.Verdict.TheVariants as verdict
use Rattle.bp_log.specs.declared.verdict.Place.{Place}
use Rattle.bp_run.specs.Bodies.{Part, Effect, Outcome}
use Rattle.bp_run.specs.Bodies.Effect.{Says, Enqueue, Register, Handler}
use Rattle.bp_run.specs.Bodies.Outcome.{Stopped, Ended, Broken, Violated, Spent}
use Rattle.bp_run.specs.Configuration.{Stand, Thread, change}
use Rattle.bp_run.specs.Settling.{Body, Entry, Pair, Ran, ran, part_of, body_of, unless_at, unless_over, stopped, queued, registered, with_effect, with_effects, with_end, with_outcome, with_part, merged, turn, place_of, opening}
use Rattle.bp_run.specs.Settling.Entry.{The_top, Runs, Stops}
use Rattle.bp_run.specs.Choosing.{Touched}
use Rattle.bp_run.specs.Choosing.Touched.{Moves, Interrupts}
use Rattle.bp_run.specs.Numbers.{numbers_from}
use Rattle.bp_run.specs.Story.{touch, touch_all, step, stepped, entry_of, handler_body}
use Rattle.bp_run.proofs.Numbers.{turn_entries}
use Rattle.bp_meaning.specs.After.{effect_of, handler}
use Rattle.bp_code.specs.Code.{ground_for, sealed_code_of as code_of}
use Rattle.bp_arbiter.specs.Calls.{is_call, AllCall, HandlerCalls, HandlersCall, RunCalls}

-- what is registered is a call
EffectCalls : Effect Origin → Type 0
EffectCalls (Says t) = Unit {0}
EffectCalls (Enqueue e) = Unit {0}
EffectCalls (Register name o) = is_call o ≡ true
EffectCalls Handler = Unit {0}

EffectsCall : List (Effect Origin) → Type 0
EffectsCall [] = Unit {0}
EffectsCall (x ∷ xs) = EffectCalls x × EffectsCall xs

effect_calls : (x : js.Effect) → EffectCalls (effect_of x)
unfolding EffectCalls
effect_calls (js.says t) = tt
effect_calls (js.enqueues e) = tt
effect_calls (js.registers name f) = refl
effect_calls (js.handles f) = tt

effects_call : (xs : List js.Effect) → EffectsCall (map effect_of xs)
unfolding EffectsCall
effects_call [] = tt
effects_call (x ∷ xs) = (effect_calls x, effects_call xs)

-- ---- b-threads

call_last : (ts : List (Thread Origin)) (t : Thread Origin) → AllCall ts → is_call t.origin ≡ true → AllCall (ts ++ t ∷ [])
call_last [] t h k = (k, tt)
call_last (x ∷ ts) t h k = (h.0, call_last ts t h.1 k)

call_changed : (f : Thread Origin → Thread Origin) → ((t : Thread Origin) → (f t).origin ≡ t.origin) → (i : ℕ) (ts : List (Thread Origin)) → AllCall ts → AllCall (change f i ts)
call_changed f s i [] h = tt
call_changed f s zero (t ∷ ts) h = (ap is_call (s t) ∙ h.0, h.1)
call_changed f s (suc i) (t ∷ ts) h = (h.0, call_changed f s i ts h.1)

Called : Pair Origin → Type 0
Called p = AllCall p.stand.threads

called_if : (b : Bool) (p q : Pair Origin) → Called p → Called q → Called (if b then p else q)
called_if true p q h k = h
called_if false p q h k = k

called_unless : (v : Option Verdict) (f : Pair Origin → Pair Origin) (p : Pair Origin) → Called p → (Called p → Called (f p)) → Called (unless_at v f p)
called_unless None f p h k = k h
called_unless (Some v) f p h k = h

called_effect : (at : Place) (x : Effect Origin) (p : Pair Origin) → EffectCalls x → Called p → Called (with_effect at x p)
unfolding Called EffectCalls
called_effect at (Says t) p c h = h
called_effect at (Enqueue e) p c h = called_if (length p.stand.queue == MOST_WAITING) (stopped verdict.Queue p) (record p { stand = queued e p.stand }) h h
called_effect at (Register name o) p c h =
    called_if (length p.stand.threads == MOST_THREADS) (stopped verdict.Threads p) (registered name o p) h
    (call_last p.stand.threads (record { name = name; origin = o; replies = []; ended = false }) h c)
called_effect at Handler p c h = h

called_effects : (at : Place) (xs : List (Effect Origin)) (p : Pair Origin) → EffectsCall xs → Called p → Called (with_effects at xs p)
unfolding EffectsCall
called_effects at [] p c h = h
called_effects at (x ∷ xs) p c h =
    called_effects at xs (unless_over (with_effect at x) p) c.1 (called_unless p.stand.verdict (with_effect at x) p h (called_effect at x p c.0))

called_end : (n : Entry Origin) (p : Pair Origin) → Called p → Called (with_end n p)
unfolding Called
called_end The_top p h = h
called_end (Runs i) p h = call_changed (λ t. record t { ended = true }) (λ t. refl) i p.stand.threads h
called_end (Stops i b) p h = h

called_outcome : {S : Type 0} (n : Entry Origin) (x : Outcome S) (p : Pair Origin) → Called p → Called (with_outcome n x p)
unfolding Called
called_outcome n (Stopped s) p h = h
called_outcome n Ended p h = called_end n p h
called_outcome n (Broken f l) p h = h
called_outcome n (Violated t) p h = h
called_outcome n Spent p h = h

called_part : {S : Type 0} (n : Entry Origin) (x : Part Origin S) (p : Pair Origin) → EffectsCall x.effects → Called p → Called (with_part n x p)
called_part n x p c h =
    let q = with_effects (place_of p.stand n) x.effects p in
    called_unless q.stand.verdict (with_outcome n x.outcome) q (called_effects (place_of p.stand n) x.effects p c h) (called_outcome n x.outcome q)

RansCall : {S : Type 0} → List (Ran Origin S) → Type 0
RansCall [] = Unit {0}
RansCall (r ∷ rs) = EffectsCall r.part.effects × RansCall rs

called_merged : {S : Type 0} (rs : List (Ran Origin S)) (p : Pair Origin) → RansCall rs → Called p → Called (merged rs p)
unfolding RansCall
called_merged [] p c h = h
called_merged (r ∷ rs) p c h =
    let f = with_part r.entry r.part in
    called_merged rs (unless_over f p) c.1 (called_unless p.stand.verdict f p h (called_part r.entry r.part p c.0))

part_calls : (program : PlainProgram) (o : PlainOptions) (b : Option (Body Origin)) → EffectsCall (part_of (code_of program o) b).effects
unfolding EffectsCall code_of
part_calls program o None = tt
part_calls program o (Some b) = effects_call _

rans_call : (program : PlainProgram) (o : PlainOptions) (s : Stand Origin) (ns : List (Entry Origin)) → RansCall (map (ran (code_of program o) s) ns)
unfolding RansCall
rans_call program o s [] = tt
rans_call program o s (n ∷ ns) = (part_calls program o (body_of (code_of program o) s n), rans_call program o s ns)

runs_call : (ns : List ℕ) → let run : ℕ → Entry Origin = λ n. Runs n in HandlersCall (map run ns)
runs_call [] = tt
runs_call (n ∷ ns) = (tt, runs_call ns)

-- a turn
pub calls_turned : (program : PlainProgram) (o : PlainOptions) (p : Pair Origin) → RunCalls p → RunCalls (turn (code_of program o) p)
unfolding turn Called
calls_turned program o p c =
    let l = code_of program o in
    let w = turn_entries l p in
    record {
      threads = called_merged (map (ran l p.stand) p.entries) (record { stand = p.stand; entries = [] }) (rans_call program o p.stand p.entries) c.threads;
      handlers = subst HandlersCall (sym w.1) (runs_call (numbers_from (length p.stand.threads) w.0));
    }

-- ---- a transition

call_touched : (e : PlainEvent) (x : Touched) (ts : List (Thread Origin)) → AllCall ts → AllCall (touch e x ts)
call_touched e (Moves i) ts h = call_changed (λ t. record t { replies = t.replies ++ e ∷ [] }) (λ t. refl) i ts h
call_touched e (Interrupts i) ts h = call_changed (λ t. record t { ended = true }) (λ t. refl) i ts h

call_touched_all : (e : PlainEvent) (xs : List Touched) (ts : List (Thread Origin)) → AllCall ts → AllCall (touch_all e xs ts)
call_touched_all e [] ts h = h
call_touched_all e (x ∷ xs) ts h = call_touched_all e xs (touch e x ts) (call_touched e x ts h)

handled : (e : PlainEvent) (v : Option PlainValue) (f : PlainValue → Origin) → ((x : PlainValue) → is_call (f x) ≡ true) →
    HandlerCalls (option_map (λ o. record { origin = o; replies = [] }) (option_map f v))
handled e None f h = tt
handled e (Some v) f h = h v

handler_calls : (program : PlainProgram) (o : PlainOptions) (e : PlainEvent) (t : Option (Thread Origin)) → HandlerCalls (handler_body (code_of program o) e t)
unfolding code_of
handler_calls program o e None = tt
handler_calls program o e (Some t) = handled e (handler (ground_for program o.budget t.origin) o.budget t.origin t.replies) _ (λ x. refl)

entries_call : (program : PlainProgram) (o : PlainOptions) (s : Stand Origin) (e : PlainEvent) (xs : List Touched) → HandlersCall (map (entry_of (code_of program o) s e) xs)
entries_call program o s e [] = tt
entries_call program o s e (Moves i ∷ xs) = (tt, entries_call program o s e xs)
entries_call program o s e (Interrupts i ∷ xs) = (handler_calls program o e (slice_get s.threads i), entries_call program o s e xs)

pub calls_stepped : (program : PlainProgram) (o : PlainOptions) (p : Pair Origin) (e : PlainEvent) (place : Option ℕ) (xs : List Touched) → RunCalls p →
    RunCalls (stepped (code_of program o) p.stand e place xs)
unfolding step
calls_stepped program o p e place xs c =
    record {
      threads = call_touched_all e xs p.stand.threads c.threads;
      handlers = entries_call program o p.stand e xs;
    }

-- before anything has run
pub calls_opening : RunCalls opening
calls_opening = record { threads = tt; handlers = (tt, tt) }
