-- Merging what b-threads did, and settling: the newly registered run until nobody is registered.
use Rattle.std.specs.Prelude.{ℕ, zero, suc, ◌+◌, Bool, true, false, ◌==◌, List, [], ◌∷◌, ◌++◌, length, map, Option, Some, None, slice_get, if◌then◌else◌}
use Rattle.js_data.specs.Event.{PlainEvent}
use Rattle.bp_log.specs.declared.limits.TheConstants.{MOST_WAITING, MOST_THREADS}
use Rattle.bp_log.specs.declared.trace.Line.{Line}
use Rattle.bp_log.specs.declared.trace.Line.TheVariants.{Log, Done, Interrupted}
use Rattle.bp_log.specs.declared.verdict.Verdict.{Verdict}
use Rattle.bp_log.specs.declared.verdict.Verdict.TheVariants as verdict
use Rattle.bp_log.specs.declared.verdict.Place.{Place}
use Rattle.bp_log.specs.declared.verdict.Place.TheVariants.{Top, Thread as Named}
use Rattle.bp_run.specs.Bodies.{Code, Part, Effect, Outcome}
use Rattle.bp_run.specs.Bodies.Effect.{Says, Enqueue, Register, Handler}
use Rattle.bp_run.specs.Bodies.Outcome.{Stopped, Ended, Broken, Violated, Spent}
use Rattle.bp_run.specs.Configuration.{Configuration, Stand, Thread, change, empty, below, name_in}

-- a body to be run, and the events that it received
pub record Body (Origin : Type 0) : Type 0 where
  pub origin : Origin
  pub replies : List PlainEvent

-- what is to be run: the top level, a b-thread that moved or was registered, or the handler of one that
-- was interrupted, if it set one
pub data Entry (Origin : Type 0) : Type 0 where
  The_top : Entry Origin
  Runs : ℕ → Entry Origin
  Stops : ℕ → Option (Body Origin) → Entry Origin

-- where a run stands, and what is to be run there
pub record Pair (Origin : Type 0) : Type 0 where
  pub stand : Stand Origin
  pub entries : List (Entry Origin)

abbrev pub own_body : {Origin : Type 0} → Option (Thread Origin) → Option (Body Origin)
own_body None = None
own_body (Some t) = Some (record { origin = t.origin; replies = t.replies })

-- the body of an entry; an interrupted b-thread without a handler has none
abbrev pub body_of : {Origin Set : Type 0} → Code Origin Set → Stand Origin → Entry Origin →
    Option (Body Origin)
body_of code s The_top = Some (record { origin = code.top; replies = [] })
body_of code s (Runs i) = own_body (slice_get s.threads i)
body_of code s (Stops i b) = b

-- what a body does; without one, nothing, and it ends
abbrev pub part_of : {Origin Set : Type 0} → Code Origin Set → Option (Body Origin) → Part Origin Set
part_of code None = record { effects = []; outcome = Ended }
part_of code (Some b) = code.after b.origin b.replies

abbrev pub place_of : {Origin : Type 0} → Stand Origin → Entry Origin → Place
place_of s The_top = Top
place_of s (Runs i) = Named (name_in (slice_get s.threads i))
place_of s (Stops i b) = Named (name_in (slice_get s.threads i))

abbrev pub unless_at : {Origin : Type 0} → Option Verdict → (Pair Origin → Pair Origin) → Pair Origin →
    Pair Origin
unless_at None f p = f p
unless_at (Some v) f p = p

-- nothing is merged after a verdict
abbrev pub unless_over : {Origin : Type 0} → (Pair Origin → Pair Origin) → Pair Origin → Pair Origin
unless_over f p = unless_at p.stand.verdict f p

abbrev pub stopped : {Origin : Type 0} → Verdict → Pair Origin → Pair Origin
stopped v p = record p { stand = record p.stand { verdict = Some v } }

abbrev pub said : {Origin : Type 0} → Line → Pair Origin → Pair Origin
said line p = record p { stand = record p.stand { lines = p.stand.lines ++ line ∷ [] } }

abbrev pub queued : {Origin : Type 0} → PlainEvent → Stand Origin → Stand Origin
queued e s = record s { queue = s.queue ++ e ∷ [] }

abbrev pub registered : {Origin : Type 0} → List ℕ → Origin → Pair Origin → Pair Origin
registered name o p =
    record {
      stand = record p.stand {
        threads =
            p.stand.threads ++ record { name = name; origin = o; replies = []; ended = false } ∷ [];
      };
      entries = p.entries ++ Runs (length p.stand.threads) ∷ [];
    }

abbrev pub ended : {Origin : Type 0} → ℕ → Stand Origin → Stand Origin
ended i s = record s { threads = change (λ t. record t { ended = true }) i s.threads }

abbrev pub with_effect : {Origin : Type 0} → Place → Effect Origin → Pair Origin → Pair Origin
with_effect at (Says text) p = said (Log at text) p
with_effect at (Enqueue e) p =
    if length p.stand.queue == MOST_WAITING then stopped verdict.Queue p
    else record p { stand = queued e p.stand }
with_effect at (Register name o) p =
    if length p.stand.threads == MOST_THREADS then stopped verdict.Threads p else registered name o p
with_effect at Handler p = p

abbrev pub with_effects : {Origin : Type 0} → Place → List (Effect Origin) → Pair Origin → Pair Origin
with_effects at [] p = p
with_effects at (x ∷ xs) p = with_effects at xs (unless_over (with_effect at x) p)

-- no line for the top level; an interrupted b-thread has ended by its transition
abbrev pub with_end : {Origin : Type 0} → Entry Origin → Pair Origin → Pair Origin
with_end The_top p = p
with_end (Runs i) p =
    let q = said (Done (name_in (slice_get p.stand.threads i))) p
    in record q { stand = ended i q.stand }
with_end (Stops i b) p = said (Interrupted (name_in (slice_get p.stand.threads i))) p

abbrev pub with_outcome : {Origin Set : Type 0} → Entry Origin → Outcome Set → Pair Origin → Pair Origin
with_outcome n (Stopped s) p = p
with_outcome n Ended p = with_end n p
with_outcome n (Broken f line) p = stopped (verdict.Fault (place_of p.stand n) line f) p
with_outcome n (Violated t) p = stopped (verdict.Violated (place_of p.stand n) t) p
with_outcome n Spent p = stopped (verdict.Spent (place_of p.stand n)) p

-- what one entry does: its effects in the order in which it made them, then its outcome
abbrev pub with_part : {Origin Set : Type 0} → Entry Origin → Part Origin Set → Pair Origin →
    Pair Origin
with_part n part p =
    unless_over (with_outcome n part.outcome) (with_effects (place_of p.stand n) part.effects p)

-- an entry, and what its body did
pub record Ran (Origin Set : Type 0) : Type 0 where
  pub entry : Entry Origin
  pub part : Part Origin Set

abbrev pub ran : {Origin Set : Type 0} → Code Origin Set → Stand Origin → Entry Origin → Ran Origin Set
ran code s n = record { entry = n; part = part_of code (body_of code s n) }

abbrev pub merged : {Origin Set : Type 0} → List (Ran Origin Set) → Pair Origin → Pair Origin
merged [] p = p
merged (r ∷ rs) p = merged rs (unless_over (with_part r.entry r.part) p)

-- the entries run from where they stand, and are merged in order; the newly registered are the entries
-- of the next turn
unfoldable pub turn : {Origin Set : Type 0} → Code Origin Set → Pair Origin → Pair Origin
turn code p = merged (map (ran code p.stand) p.entries) (record { stand = p.stand; entries = [] })

-- there is a verdict, or nothing is left to run
abbrev pub at_rest : {Origin : Type 0} → Pair Origin → Bool
at_rest p =
    elim p.stand.verdict [ None ↦ elim p.entries [ [] ↦ true | n ∷ ns ↦ false ] | Some v ↦ true ]

unfoldable pub settle_in : {Origin Set : Type 0} → Code Origin Set → ℕ → Pair Origin → Stand Origin
settle_in code zero p = p.stand
settle_in code (suc turns) p =
    elim (at_rest p) [ true ↦ p.stand | false ↦ settle_in code turns (turn code p) ]

-- turn after turn, until the pair is at rest: each turn after the first has a b-thread that the one
-- before it registered
unfoldable pub settle : {Origin Set : Type 0} → Code Origin Set → Pair Origin → Stand Origin
settle code p = settle_in code (MOST_THREADS + 1) p

-- before anything ran
abbrev pub opening : {Origin : Type 0} → Pair Origin
opening = record { stand = empty; entries = The_top ∷ [] }

unfoldable pub initial : {Origin Set : Type 0} → Code Origin Set → ℕ → Configuration Origin
initial code injectors =
    record { stand = settle code opening; drawn = 0; reading = below injectors; bad = None }

-- the same pair, with lines before its own
abbrev pub before : {Origin : Type 0} → List Line → Pair Origin → Pair Origin
before ls p = record p { stand = record p.stand { lines = ls ++ p.stand.lines } }
