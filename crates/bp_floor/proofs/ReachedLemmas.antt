-- An event reaches b-threads, one after the other.
use Rattle.std.proofs.lemmas.List.Edits.{length-remove}
use Rattle.std.proofs.Common.{◌≡◌, ℕ, suc, ◌+◌, ◌<◌, ◌≤◌, Bool, true, false, not, ◌&&◌, List, [], ◌∷◌, ◌++◌, length, map, refl, sym, ap, ◌∙◌, subst, arith, Option, Some, None, is_none, is_some, slice_get, append_assoc, append-nil, if◌then◌else◌, IfSome}
use Rattle.std.proofs.lemmas.Bool.{and_right, and_left}
use Rattle.std.proofs.lemmas.Option.{same_Some, none-some, slice_get_within}
use Rattle.std.proofs.lemmas.List.{length-map}
use Rattle.js_data.specs.Event.{PlainEvent}
use Rattle.js_value.specs.Value.{PlainSet}
use Rattle.js_program.specs.PlainProgram.{PlainProgram}
use Rattle.js_meaning.specs.Bodies.{Origin, the_top, ground_of}
use Rattle.js_meaning.specs.State.{Ground}
use Rattle.bp_log.specs.declared.limits.TheConstants.{MOST_WAITING, MOST_THREADS}
use Rattle.bp_code.specs.Code.{ground_for}
use Rattle.bp_run.specs.Bodies.{Outcome}
use Rattle.bp_run.specs.Configuration.{Thread, change}
use Rattle.bp_run.specs.Selecting.{Live}
use Rattle.bp_run.specs.Choosing.{Touched}
use Rattle.bp_run.specs.Choosing.Touched.{Moves, Interrupts}
use Rattle.bp_run.specs.Settling.{Entry}
use Rattle.bp_log.specs.declared.trace.Line.{Line}
use Rattle.bp_run.specs.Story.{touch, touch_all, without, line_of_choice}
use Rattle.bp_run.specs.Numbers.{number_in}
use Rattle.bp_run.proofs.Turns.{length-change}
use Rattle.bp_run.proofs.Numbers.{changed_elsewhere}
use Rattle.bp_live.specs.Placing.{placed}
use Rattle.bp_floor.specs.inner.Desks.{Fits}
use Rattle.bp_thread.specs.declared.job.Job.{Job}
use Rattle.bp_thread.specs.Jobs.{PlainJob, plain_job, IsOf, StandsFor, IsFresh, is_stopped}
use Rattle.bp_floor.specs.declared.board.Board.{Board}
use Rattle.bp_floor.specs.inner.Seats.{PlainSeat, seated, origin_in, replies_in, outcome_in, is_waiting, is_ready, where_from, statement_at, stated_from, IsOwn, IsOwnIn, AreOwn, swept}
use Rattle.bp_floor.specs.inner.Boards.{stand_of, pair_of}
use Rattle.bp_floor.specs.Forgetting.{forget, forgotten}
use Rattle.bp_floor.specs.inner.Kept.{Running, IsKept, AreFrom, Rises, runs_in}
use Rattle.bp_floor.specs.Returns.{IsSameBut}
use Rattle.bp_floor.specs.inner.Reached.{IsStanding, IsTouch, AreStanding, moves_in, moved_pair, CanTouch, IsTouchedBy}
use Rattle.bp_floor.proofs.Lists.{change_map, change_map_at}
use Rattle.bp_floor.proofs.Places.{where_like, where_more0, rises_below, stated_changed0, own_changed0, waits_swept, ready_swept, stated_swept, own_swept, forgets_swept}
use Rattle.bp_floor.proofs.TurnLemmas.{from_zero}
use Rattle.bp_floor.proofs.ReturnLemmas.{same_but, same_then}
use Rattle.bp_floor.proofs.Weaving.{from_moves}

-- Where reaching stands: these are left.
pub record Touching (r : Running) (e : PlainEvent) (all xs : List Touched) (old now : Board) : Type 0 where
  pub threads : touch_all e xs (map seated now.seats) ≡ touch_all e all (map seated old.seats)
  pub own : AreOwn r.program r.options 0 now.seats
  pub waiting : where_from is_waiting 0 now.seats ++ moves_in xs ≡ moves_in all
  pub ready : where_from is_ready 0 now.seats ++ moves_in xs ≡ moves_in all
  pub rising : Rises (moves_in all)
  pub mirror : now.desk.bench.live ≡ stated_from 0 now.seats
  pub fits : Fits now.desk (ground_of r.program r.options.budget) r.options.budget
  pub few : length now.seats ≤ MOST_THREADS
  pub room : length now.desk.queue ≤ MOST_WAITING
  pub standing : AreStanding xs now.seats
  pub rises : Rises (map number_in xs)
  pub same : IsSameBut old now

pub rises_moves : (xs : List Touched) → Rises (map number_in xs) → Rises (moves_in xs)
rises_moves [] h = tt
rises_moves (Moves i ∷ xs) h = (from_moves (suc i) xs h.0, rises_moves xs h.1)
rises_moves (Interrupts i ∷ xs) h = rises_moves xs h.1

pub touching_start : (r : Running) (e : PlainEvent) (xs : List Touched) (b : Board) → CanTouch r xs b → Touching r e xs xs b b
touching_start r e xs b c =
    record {
      threads = refl;
      own = c.own;
      waiting = ap (λ (ns : List ℕ). ns ++ moves_in xs) c.waiting;
      ready = ap (λ (ns : List ℕ). ns ++ moves_in xs) c.ready;
      rising = rises_moves xs c.rises;
      mirror = c.mirror;
      fits = c.fits;
      few = c.few;
      room = c.room;
      standing = c.standing;
      rises = c.rises;
      same = same_but b;
    }

pub touching_end : (r : Running) (e : PlainEvent) (all : List Touched) (old now : Board) → Touching r e all [] old now → IsTouchedBy r e all old now
touching_end r e all old now t =
    record {
      threads = t.threads;
      own = t.own;
      waiting = sym (append-nil (where_from is_waiting 0 now.seats)) ∙ t.waiting;
      ready = sym (append-nil (where_from is_ready 0 now.seats)) ∙ t.ready;
      mirror = t.mirror;
      fits = t.fits;
      few = t.few;
      room = t.room;
      same = t.same;
    }

standing_changed : (xs : List Touched) (f : PlainSeat → PlainSeat) (i : ℕ) (ss : List PlainSeat) → AreFrom (suc i) (map number_in xs) → AreStanding xs ss → AreStanding xs (change f i ss)
standing_changed [] f i ss h k = tt
standing_changed (x ∷ xs) f i ss h k =
    let a = h.0 in
    (subst (λ (o : Option PlainSeat). IsStanding o) (sym (changed_elsewhere f i (number_in x) ss (λ e. omega (arith, a, e)))) k.0, standing_changed xs f i ss h.1 k.1)

-- what is known of a b-thread at its point
pub stopped_some : (o : Option (Outcome PlainSet)) → is_stopped o ≡ true → (is_none o ≡ false) × (x : Outcome PlainSet) × (o ≡ Some x)
stopped_some None h = absurd (cc)
stopped_some (Some x) h = (refl, x, refl)

-- one that stands does not wait
stands_quiet : (ss : List PlainSeat) (i : ℕ) (s : PlainSeat) (k : IsStanding (slice_get ss i)) → slice_get ss i ≡ Some s → (s.ended ≡ false) × (s.job ≡ Some k.job) × (is_waiting s ≡ false) × (is_ready s ≡ false)
stands_quiet ss i s k h =
    let e : k.seat ≡ s = same_Some k.seat s (sym k.is_seat ∙ h) in
    let j : s.job ≡ Some k.job = ap (λ (x : PlainSeat). x.job) (sym e) ∙ k.is_job in
    let n = (stopped_some (plain_job k.job).outcome k.stopped).0 in
    let o : is_none (outcome_in s.job) ≡ false = ap (λ (x : Option Job). is_none (outcome_in x)) j ∙ n in
    (ap (λ (x : PlainSeat). x.ended) (sym e) ∙ k.going, j, and_right (not s.ended) (is_none (outcome_in s.job)) o, and_left (not s.ended && is_none (outcome_in s.job)) (is_some s.job) (and_right (not s.ended) (is_none (outcome_in s.job)) o))

if_none : (b : Bool) → let o : Option (Live PlainSet) = if b then None else None in o ≡ None
if_none true = refl
if_none false = refl

given_seated : (s : PlainSeat) (j g : Job) (e : PlainEvent) → s.job ≡ Some j → plain_job g ≡ record (plain_job j) { replies = (plain_job j).replies ++ e ∷ []; outcome = None } →
    seated (record s { job = Some g }) ≡ record (seated s) { replies = (seated s).replies ++ e ∷ [] }
given_seated s j g e h p =
    ap (λ (x : PlainJob). let t : Thread Origin = record { name = s.name; origin = x.origin; replies = x.replies; ended = s.ended } in t) p
    ∙ ap (λ (o : Option Job). let t : Thread Origin = record { name = s.name; origin = origin_in o; replies = replies_in o ++ e ∷ []; ended = s.ended } in t) (sym h)

given_waits : (s : PlainSeat) (g : Job) → s.ended ≡ false → (plain_job g).outcome ≡ None → is_waiting (record s { job = Some g }) ≡ true
given_waits s g h k = rw (h, k) refl

given_ready : (s : PlainSeat) (g : Job) → s.ended ≡ false → (plain_job g).outcome ≡ None → is_ready (record s { job = Some g }) ≡ true
given_ready s g h k = rw (h, k) refl

given_silent : (s : PlainSeat) (g : Job) (n : ℕ) → (plain_job g).outcome ≡ None → statement_at n (record s { job = Some g }) ≡ None
given_silent s g n k = rw k (if_none s.ended)

given_own : (r : Running) (n : ℕ) (j g : Job) (e : PlainEvent) → IsOwn r.program r.options n j → is_stopped (plain_job j).outcome ≡ true → plain_job g ≡ record (plain_job j) { replies = (plain_job j).replies ++ e ∷ []; outcome = None } →
    ((program : PlainProgram) → IsOf program j → IsOf program g) → ((base : Ground) (budget : ℕ) → StandsFor base budget j → IsFresh base budget g) → IsOwn r.program r.options n g
given_own r n j g e o s p q w =
    let some = stopped_some (plain_job j).outcome s in
    let outcome : (plain_job g).outcome ≡ None = ap (λ (x : PlainJob). x.outcome) p in
    record {
      number_is = ap (λ (x : PlainJob). x.number) p ∙ o.number_is;
      of_program = q r.program o.of_program;
      effects = ap (λ (x : PlainJob). x.effects) p ∙ o.effects;
      fresh = λ h. subst (λ (x : Origin). IsFresh (ground_for r.program r.options.budget x) r.options.budget g) (sym (ap (λ (x : PlainJob). x.origin) p))
          (w (ground_for r.program r.options.budget (plain_job j).origin) r.options.budget (o.stands some.1 some.2));
      stands = λ x h. absurd (none-some x (sym outcome ∙ h));
      outcome = λ x h. absurd (none-some x (sym outcome ∙ h));
    }

touch_moves : (r : Running) (e : PlainEvent) (i : ℕ) (all xs : List Touched) (old now new : Board) → IsTouch e (Moves i) now new → Touching r e all (Moves i ∷ xs) old now → Touching r e all xs old new
touch_moves r e i all xs old now new h t =
    let g = h.0.given in
    let put : PlainSeat → PlainSeat = λ s. record s { job = Some g } in
    let k = t.standing.0 in
    let low = slice_get_within now.seats i k.seat k.is_seat in
    let outcome : (plain_job g).outcome ≡ None = ap (λ (x : PlainJob). x.outcome) h.0.plain in
    let len : length (change put i now.seats) ≡ length now.seats = length-change put i now.seats in
    let few = t.few in
    let room = t.room in
    let jobs : (s : PlainSeat) → slice_get now.seats i ≡ Some s → h.0.job ≡ k.job = λ s w. same_Some h.0.job k.job (sym (h.0.old_is s w) ∙ (stands_quiet now.seats i s k w).1) in
    let threads : map seated new.seats ≡ touch e (Moves i) (map seated now.seats) =
    ap (λ (ss : List PlainSeat). map seated ss) h.0.seats
    ∙ change_map_at seated put (λ (x : Thread Origin). record x { replies = x.replies ++ e ∷ [] }) i now.seats (λ s w. given_seated s h.0.job g e (h.0.old_is s w) h.0.plain) in
    let below = rises_below (where_from is_waiting 0 now.seats) i (moves_in xs) (subst (λ (ns : List ℕ). Rises ns) (sym t.waiting) t.rising) in
    let below_ready = rises_below (where_from is_ready 0 now.seats) i (moves_in xs) (subst (λ (ns : List ℕ). Rises ns) (sym t.ready) t.rising) in
    record {
      threads = ap (λ (ts : List (Thread Origin)). touch_all e xs ts) threads ∙ t.threads;
      own = subst (λ (ss : List PlainSeat). AreOwn r.program r.options 0 ss) (sym h.0.seats)
          (own_changed0 r.program r.options i put now.seats t.own
          (λ s w y. given_own r i h.0.job g e (subst (λ (o : Option Job). IsOwnIn r.program r.options i o) (h.0.old_is s w) y) (subst (λ (j : Job). is_stopped (plain_job j).outcome ≡ true) (sym (jobs s w)) k.stopped) h.0.plain h.0.of_program h.0.fresh));
      waiting = ap (λ (ss : List PlainSeat). where_from is_waiting 0 ss ++ moves_in xs) h.0.seats
          ∙ ap (λ (ns : List ℕ). ns ++ moves_in xs) (where_more0 is_waiting i put now.seats low (λ s w. let q = stands_quiet now.seats i s k w in (q.2, given_waits s g q.0 outcome)) below)
          ∙ append_assoc (where_from is_waiting 0 now.seats) (i ∷ []) (moves_in xs) ∙ t.waiting;
      ready = ap (λ (ss : List PlainSeat). where_from is_ready 0 ss ++ moves_in xs) h.0.seats
          ∙ ap (λ (ns : List ℕ). ns ++ moves_in xs) (where_more0 is_ready i put now.seats low (λ s w. let q = stands_quiet now.seats i s k w in (q.3, given_ready s g q.0 outcome)) below_ready)
          ∙ append_assoc (where_from is_ready 0 now.seats) (i ∷ []) (moves_in xs) ∙ t.ready;
      rising = t.rising;
      mirror = h.1.live ∙ ap (λ (ts : List (Live PlainSet)). placed i None ts) t.mirror
          ∙ sym (stated_changed0 i put None now.seats low (λ s w n. given_silent s g n outcome))
          ∙ ap (λ (ss : List PlainSeat). stated_from 0 ss) (sym h.0.seats);
      fits = h.1.fits (ground_of r.program r.options.budget) r.options.budget t.mirror t.fits;
      few = subst (λ (ss : List PlainSeat). length ss ≤ MOST_THREADS) (sym h.0.seats) (omega (arith, few, len));
      room = subst (λ (q : List PlainEvent). length q ≤ MOST_WAITING) (sym h.1.same.queue) room;
      standing = subst (λ (ss : List PlainSeat). AreStanding xs ss) (sym h.0.seats) (standing_changed xs put i now.seats t.rises.0 t.standing.1);
      rises = t.rises.1;
      same = same_then old now new t.same h.1.same;
    }

touch_interrupts : (r : Running) (e : PlainEvent) (i : ℕ) (all xs : List Touched) (old now new : Board) → IsTouch e (Interrupts i) now new → Touching r e all (Interrupts i ∷ xs) old now → Touching r e all xs old new
touch_interrupts r e i all xs old now new h t =
    let end : PlainSeat → PlainSeat = λ s. record s { ended = true } in
    let k = t.standing.0 in
    let low = slice_get_within now.seats i k.seat k.is_seat in
    let len : length (change end i now.seats) ≡ length now.seats = length-change end i now.seats in
    let few = t.few in
    let room = t.room in
    record {
      threads = ap (λ (ss : List PlainSeat). touch_all e xs (map seated ss)) h.0
          ∙ ap (λ (ts : List (Thread Origin)). touch_all e xs ts) (change_map seated end (λ (x : Thread Origin). record x { ended = true }) i now.seats (λ s. refl)) ∙ t.threads;
      own = subst (λ (ss : List PlainSeat). AreOwn r.program r.options 0 ss) (sym h.0) (own_changed0 r.program r.options i end now.seats t.own (λ s w y. y));
      waiting = ap (λ (ss : List PlainSeat). where_from is_waiting 0 ss ++ moves_in xs) h.0
          ∙ ap (λ (ns : List ℕ). ns ++ moves_in xs) (where_like is_waiting 0 i end now.seats (λ s w. sym (stands_quiet now.seats i s k w).2)) ∙ t.waiting;
      ready = ap (λ (ss : List PlainSeat). where_from is_ready 0 ss ++ moves_in xs) h.0
          ∙ ap (λ (ns : List ℕ). ns ++ moves_in xs) (where_like is_ready 0 i end now.seats (λ s w. sym (stands_quiet now.seats i s k w).3)) ∙ t.ready;
      rising = t.rising;
      mirror = h.1.live ∙ ap (λ (ts : List (Live PlainSet)). placed i None ts) t.mirror
          ∙ sym (stated_changed0 i end None now.seats low (λ s w n. refl)) ∙ ap (λ (ss : List PlainSeat). stated_from 0 ss) (sym h.0);
      fits = h.1.fits (ground_of r.program r.options.budget) r.options.budget t.mirror t.fits;
      few = subst (λ (ss : List PlainSeat). length ss ≤ MOST_THREADS) (sym h.0) (omega (arith, few, len));
      room = subst (λ (q : List PlainEvent). length q ≤ MOST_WAITING) (sym h.1.same.queue) room;
      standing = subst (λ (ss : List PlainSeat). AreStanding xs ss) (sym h.0) (standing_changed xs end i now.seats t.rises.0 t.standing.1);
      rises = t.rises.1;
      same = same_then old now new t.same h.1.same;
    }

pub touching_next : (r : Running) (e : PlainEvent) (x : Touched) (all xs : List Touched) (old now new : Board) → IsTouch e x now new → Touching r e all (x ∷ xs) old now → Touching r e all xs old new
touching_next r e (Moves i) all xs old now new h t = touch_moves r e i all xs old now new h t
touching_next r e (Interrupts i) all xs old now new h t = touch_interrupts r e i all xs old now new h t

-- the same for whatever program runs
pub record Reaches (e : PlainEvent) (all xs : List Touched) (old now : Board) : Type 0 where
  pub reaches : (r : Running) → CanTouch r all old → Touching r e all xs old now
  pub some : Running
  pub begins : CanTouch some all old

pub reaches_start : (e : PlainEvent) (xs ys : List Touched) (b : Board) (r : Running) → CanTouch r xs b → ys ≡ xs → Reaches e xs ys b b
reaches_start e xs ys b r c h =
    subst (λ (zs : List Touched). Reaches e xs zs b b) (sym h) (record { reaches = λ s k. touching_start s e xs b k; some = r; begins = c })

pub reaches_standing : (e : PlainEvent) (all xs : List Touched) (old now : Board) (x : Touched) (rest : List Touched) → Reaches e all xs old now → xs ≡ x ∷ rest → IsStanding (slice_get now.seats (number_in x))
reaches_standing e all xs old now x rest h k =
    let s = subst (λ (ys : List Touched). AreStanding ys now.seats) k (h.reaches h.some h.begins).standing in s.0

pub reaches_next : (e : PlainEvent) (all xs : List Touched) (old now new : Board) (x : Touched) (rest : List Touched) → Reaches e all xs old now → xs ≡ x ∷ rest → IsTouch e x now new → Reaches e all rest old new
reaches_next e all xs old now new x rest h k t =
    record {
      reaches = λ r c. touching_next r e x all rest old now new t (subst (λ (ys : List Touched). Touching r e all ys old now) k (h.reaches r c));
      some = h.some;
      begins = h.begins;
    }

pub reaches_end : (e : PlainEvent) (all xs : List Touched) (old now : Board) → Reaches e all xs old now → xs ≡ [] → (r : Running) → CanTouch r all old → IsTouchedBy r e all old now
reaches_end e all xs old now h k r c = touching_end r e all old now (subst (λ (ys : List Touched). Touching r e all ys old now) k (h.reaches r c))

-- ---- a transition

-- the pair after it
pub stepped_is : (r : Running) (e : PlainEvent) (place : Option ℕ) (xs : List Touched) (weight : ℕ) (wave : List (Entry Origin)) (line : Line) (old mid new : Board) → IsTouchedBy r e xs old mid → line ≡ line_of_choice e place →
    new.seats ≡ map swept mid.seats → new.desk.queue ≡ without mid.desk.queue place → new.transitions ≡ mid.transitions + 1 → new.weight ≡ weight → new.lines ≡ mid.lines ++ line ∷ [] → new.verdict ≡ mid.verdict → new.wave ≡ wave →
    pair_of new ≡ forgotten the_top (moved_pair (stand_of old) e place xs weight wave)
stepped_is r e place xs weight wave line old mid new t l s q n w ls v a =
    let threads : map seated new.seats ≡ map (forget the_top) (touch_all e xs (map seated old.seats)) =
    ap (λ (ss : List PlainSeat). map seated ss) s ∙ forgets_swept mid.seats ∙ ap (λ (ts : List (Thread Origin)). map (forget the_top) ts) t.threads in
    let queue : new.desk.queue ≡ without old.desk.queue place = q ∙ ap (λ (es : List PlainEvent). without es place) t.same.queue in
    let transitions : new.transitions ≡ old.transitions + 1 = n ∙ ap (λ (m : ℕ). m + 1) t.same.transitions in
    let lines : new.lines ≡ old.lines ++ line_of_choice e place ∷ [] = ls ∙ ap (λ (x : Line). mid.lines ++ x ∷ []) l ∙ ap (λ (xs : List Line). xs ++ line_of_choice e place ∷ []) t.same.lines in
    let verdict : new.verdict ≡ old.verdict = v ∙ t.same.verdict in
    rw (threads, queue, transitions, w, lines, verdict, a) refl

fewer_left : (place : Option ℕ) (es : List PlainEvent) → IfSome place (λ i. i < length es) → length (without es place) ≤ length es
fewer_left None es h = omega arith
fewer_left (Some i) es h = let e = length-remove es i h in omega (arith, e)

-- and what it keeps
pub stepped_keeps : (r : Running) (e : PlainEvent) (place : Option ℕ) (xs : List Touched) (wave : List (Entry Origin)) (old mid new : Board) → IsTouchedBy r e xs old mid → IfSome place (λ i. i < length old.desk.queue) →
    new.seats ≡ map swept mid.seats → new.desk.bench.live ≡ mid.desk.bench.live → ((base : Ground) (budget : ℕ) → Fits mid.desk base budget → Fits new.desk base budget) → new.desk.queue ≡ without mid.desk.queue place → new.wave ≡ wave →
    moves_in xs ≡ runs_in wave → IsKept r 0 new
stepped_keeps r e place xs wave old mid new t there s live fits q a h =
    let few = t.few in
    let room = t.room in
    let len = length-map mid.seats swept in
    let left = fewer_left place mid.desk.queue (subst (λ (es : List PlainEvent). IfSome place (λ i. i < length es)) (sym t.same.queue) there) in
    record {
      own = subst (λ (ss : List PlainSeat). AreOwn r.program r.options 0 ss) (sym s) (own_swept r.program r.options 0 mid.seats t.own);
      waiting = ap (λ (ss : List PlainSeat). where_from is_waiting 0 ss) s ∙ waits_swept 0 mid.seats ∙ t.waiting ∙ h ∙ ap (λ (ns : List (Entry Origin)). runs_in ns) (sym a);
      ready = ap (λ (ss : List PlainSeat). where_from is_ready 0 ss) s ∙ ready_swept 0 mid.seats ∙ t.ready ∙ h ∙ ap (λ (ns : List (Entry Origin)). runs_in ns) (sym a);
      mirror = live ∙ t.mirror ∙ sym (stated_swept 0 mid.seats) ∙ ap (λ (ss : List PlainSeat). stated_from 0 ss) (sym s);
      fits = fits (ground_of r.program r.options.budget) r.options.budget t.fits;
      fresh = from_zero (runs_in new.wave);
      older = omega arith;
      few = subst (λ (ss : List PlainSeat). length ss ≤ MOST_THREADS) (sym s) (omega (arith, few, len));
      room = subst (λ (es : List PlainEvent). length es ≤ MOST_WAITING) (sym q) (omega (arith, room, left));
    }
