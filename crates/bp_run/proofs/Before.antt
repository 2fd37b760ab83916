-- Earlier lines are not read: a pair with lines before its own goes on as the pair itself, with them before.
use Rattle.std.proofs.Common.{◌≡◌, ℕ, Bool, true, false, List, [], ◌∷◌, length, refl, sym, ap, ◌∙◌, append_assoc, append-nil, Option, Some, None, if◌then◌else◌, ◌==◌, map}
use Rattle.js_data.specs.Event.{PlainEvent}
use Rattle.bp_log.specs.declared.limits.TheConstants.{MOST_WAITING, MOST_THREADS}
use Rattle.bp_log.specs.declared.trace.Line.{Line}
use Rattle.bp_log.specs.declared.trace.Line.TheVariants as trace
use Rattle.bp_log.specs.declared.verdict.Verdict.{Verdict}
use Rattle.bp_log.specs.declared.verdict.Verdict.TheVariants as verdict
use Rattle.bp_log.specs.declared.verdict.Place.{Place}
use Rattle.bp_run.specs.Bodies.{Code, Part, Effect, Outcome}
use Rattle.bp_run.specs.Bodies.Effect.{Says, Enqueue, Register, Handler}
use Rattle.bp_run.specs.Bodies.Outcome.{Stopped, Ended, Broken, Violated, Spent}
use Rattle.bp_run.specs.Configuration.{Stand}
use Rattle.bp_run.specs.Settling.{Entry, Pair, Ran, ran, unless_at, unless_over, stopped, said, queued, registered, with_effect, with_effects, with_end, with_outcome, with_part, merged, turn, place_of, before}
use Rattle.bp_run.specs.Settling.Entry.{The_top, Runs, Stops}
use Rattle.bp_run.specs.Choosing.{Touched}
use Rattle.bp_run.specs.Choosing.Touched.{Moves, Interrupts}
use Rattle.bp_run.specs.Story.{stepped, step, line_of_choice, entry_of}

before_said : {O : Type 0} (ls : List Line) (line : Line) (p : Pair O) → said line (before ls p) ≡ before ls (said line p)
before_said ls line p = ap (λ (xs : List Line). record p { stand = record p.stand { lines = xs } }) (append_assoc ls p.stand.lines (line ∷ []))

before_if : {O : Type 0} (ls : List Line) (b : Bool) (p q r s : Pair O) → p ≡ before ls r → q ≡ before ls s → (if b then p else q) ≡ before ls (if b then r else s)
before_if ls true p q r s g h = g
before_if ls false p q r s g h = h

before_unless : {O : Type 0} (ls : List Line) (v : Option Verdict) (f : Pair O → Pair O) (p : Pair O) → f (before ls p) ≡ before ls (f p) → unless_at v f (before ls p) ≡ before ls (unless_at v f p)
before_unless ls None f p h = h
before_unless ls (Some v) f p h = refl

before_effect : {O : Type 0} (ls : List Line) (at : Place) (x : Effect O) (p : Pair O) → with_effect at x (before ls p) ≡ before ls (with_effect at x p)
before_effect ls at (Says t) p = before_said ls (trace.Log at t) p
before_effect ls at (Enqueue e) p =
    before_if ls (length p.stand.queue == MOST_WAITING) (stopped verdict.Queue (before ls p)) (let q = before ls p in record q { stand = queued e q.stand })
    (stopped verdict.Queue p) (record p { stand = queued e p.stand }) refl refl
before_effect ls at (Register name o) p =
    before_if ls (length p.stand.threads == MOST_THREADS) (stopped verdict.Threads (before ls p)) (registered name o (before ls p)) (stopped verdict.Threads p) (registered name o p) refl refl
before_effect ls at Handler p = refl

before_effects : {O : Type 0} (ls : List Line) (at : Place) (xs : List (Effect O)) (p : Pair O) → with_effects at xs (before ls p) ≡ before ls (with_effects at xs p)
before_effects ls at [] p = refl
before_effects ls at (x ∷ xs) p =
    ap (λ (q : Pair _). with_effects at xs q) (before_unless ls p.stand.verdict (with_effect at x) p (before_effect ls at x p))
    ∙ before_effects ls at xs (unless_over (with_effect at x) p)

before_end : {O : Type 0} (ls : List Line) (n : Entry O) (p : Pair O) → with_end n (before ls p) ≡ before ls (with_end n p)
before_end ls The_top p = refl
before_end ls (Runs i) p = ap (λ (xs : List Line). let q = with_end (Runs i) p in record q { stand = record q.stand { lines = xs } }) (append_assoc ls p.stand.lines _)
before_end ls (Stops i b) p = before_said ls _ p

before_outcome : {O S : Type 0} (ls : List Line) (n : Entry O) (x : Outcome S) (p : Pair O) → with_outcome n x (before ls p) ≡ before ls (with_outcome n x p)
before_outcome ls n (Stopped s) p = refl
before_outcome ls n Ended p = before_end ls n p
before_outcome ls The_top (Broken f l) p = refl
before_outcome ls (Runs i) (Broken f l) p = refl
before_outcome ls (Stops i b) (Broken f l) p = refl
before_outcome ls The_top (Violated t) p = refl
before_outcome ls (Runs i) (Violated t) p = refl
before_outcome ls (Stops i b) (Violated t) p = refl
before_outcome ls The_top Spent p = refl
before_outcome ls (Runs i) Spent p = refl
before_outcome ls (Stops i b) Spent p = refl

place_before : {O : Type 0} (ls : List Line) (n : Entry O) (p : Pair O) → place_of (before ls p).stand n ≡ place_of p.stand n
place_before ls The_top p = refl
place_before ls (Runs i) p = refl
place_before ls (Stops i b) p = refl

before_part : {O S : Type 0} (ls : List Line) (n : Entry O) (x : Part O S) (p : Pair O) → with_part n x (before ls p) ≡ before ls (with_part n x p)
before_part ls n x p =
    let q = with_effects (place_of p.stand n) x.effects p in
    ap (λ (a : Place). unless_over (with_outcome n x.outcome) (with_effects a x.effects (before ls p))) (place_before ls n p)
    ∙ ap (λ (r : Pair _). unless_over (with_outcome n x.outcome) r) (before_effects ls (place_of p.stand n) x.effects p)
    ∙ before_unless ls q.stand.verdict (with_outcome n x.outcome) q (before_outcome ls n x.outcome q)

pub before_merged : {O S : Type 0} (ls : List Line) (rs : List (Ran O S)) (p : Pair O) → merged rs (before ls p) ≡ before ls (merged rs p)
before_merged ls [] p = refl
before_merged ls (r ∷ rs) p =
    ap (λ (q : Pair _). merged rs q) (before_unless ls p.stand.verdict (with_part r.entry r.part) p (before_part ls r.entry r.part p))
    ∙ before_merged ls rs (unless_over (with_part r.entry r.part) p)

ran_before : {O S : Type 0} (l : Code O S) (ls : List Line) (p : Pair O) (n : Entry O) → ran l (before ls p).stand n ≡ ran l p.stand n
ran_before l ls p The_top = refl
ran_before l ls p (Runs i) = refl
ran_before l ls p (Stops i b) = refl

pub rans_before : {O S : Type 0} (l : Code O S) (ls : List Line) (p : Pair O) (ns : List (Entry O)) → map (ran l (before ls p).stand) ns ≡ map (ran l p.stand) ns
rans_before l ls p [] = refl
rans_before l ls p (n ∷ ns) =
    ap (λ (r : Ran _ _). r ∷ map (ran l (before ls p).stand) ns) (ran_before l ls p n) ∙ ap (λ (rs : List (Ran _ _)). ran l p.stand n ∷ rs) (rans_before l ls p ns)

pub before_turn : {O S : Type 0} (l : Code O S) (ls : List Line) (p : Pair O) → turn l (before ls p) ≡ before ls (turn l p)
unfolding turn
before_turn l ls p =
    ap (λ (rs : List (Ran _ _)). merged rs (before ls (record { stand = p.stand; entries = [] }))) (rans_before l ls p p.entries)
    ∙ before_merged ls (map (ran l p.stand) p.entries) (record { stand = p.stand; entries = [] })

entries_before : {O S : Type 0} (l : Code O S) (ls : List Line) (p : Pair O) (e : PlainEvent) (ns : List Touched) →
    map (entry_of l (before ls p).stand e) ns ≡ map (entry_of l p.stand e) ns
entries_before l ls p e [] = refl
entries_before l ls p e (Moves i ∷ ns) = ap (λ (rs : List (Entry _)). Runs i ∷ rs) (entries_before l ls p e ns)
entries_before l ls p e (Interrupts i ∷ ns) = ap (λ (rs : List (Entry _)). entry_of l p.stand e (Interrupts i) ∷ rs) (entries_before l ls p e ns)

pub before_step : {O S : Type 0} (l : Code O S) (ls : List Line) (p : Pair O) (e : PlainEvent) (place : Option ℕ) (reached : List Touched) →
    stepped l (before ls p).stand e place reached ≡ before ls (stepped l p.stand e place reached)
unfolding step
before_step l ls p e place reached =
    ap (λ (ns : List (Entry _)). record { stand = step (before ls p).stand e place reached; entries = ns }) (entries_before l ls p e reached)
    ∙ ap (λ (xs : List Line). let q = stepped l p.stand e place reached in record q { stand = record q.stand { lines = xs } }) (append_assoc ls p.stand.lines (line_of_choice e place ∷ []))

ran_lineless : {O S : Type 0} (l : Code O S) (s : Stand O) (ls : List Line) (n : Entry O) → ran l (record s { lines = ls }) n ≡ ran l s n
ran_lineless l s ls The_top = refl
ran_lineless l s ls (Runs i) = refl
ran_lineless l s ls (Stops i b) = refl

pub rans_lineless : {O S : Type 0} (l : Code O S) (s : Stand O) (ls : List Line) (ns : List (Entry O)) → map (ran l (record s { lines = ls })) ns ≡ map (ran l s) ns
rans_lineless l s ls [] = refl
rans_lineless l s ls (n ∷ ns) =
    ap (λ (r : Ran _ _). r ∷ map (ran l (record s { lines = ls })) ns) (ran_lineless l s ls n) ∙ ap (λ (rs : List (Ran _ _)). ran l s n ∷ rs) (rans_lineless l s ls ns)

-- a turn whose lines are kept apart
pub turn_apart : {O S : Type 0} (l : Code O S) (s : Stand O) (ns : List (Entry O)) →
    before s.lines (merged (map (ran l (record s { lines = [] })) ns) (record { stand = record s { lines = [] }; entries = [] })) ≡ turn l (record { stand = s; entries = ns })
unfolding turn
turn_apart l s ns =
    let q : Pair _ = record { stand = record s { lines = [] }; entries = [] } in
    ap (λ (rs : List (Ran _ _)). before s.lines (merged rs q)) (rans_lineless l s [] ns)
    ∙ sym (before_merged s.lines (map (ran l s) ns) q)
    ∙ ap (λ (xs : List Line). merged (map (ran l s) ns) (record { stand = record s { lines = xs }; entries = [] })) (append-nil s.lines)
