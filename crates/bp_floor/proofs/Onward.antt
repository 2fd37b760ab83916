-- What merging keeps, step after step.
use Rattle.std.proofs.Common.{◌≡◌, ℕ, ◌≤◌, ◌<◌, ◌+◌, List, [], ◌∷◌, ◌++◌, length, map, refl, sym, ap, ◌∙◌, subst, arith, nat_eq, true, false, length-append, Some, None}
use Rattle.js_data.specs.Event.{PlainEvent}
use Rattle.js_program.specs.PlainProgram.{PlainProgram}
use Rattle.js_program.specs.declared.builtin.Mode.TheVariants as mode
use Rattle.js_meaning.specs.Bodies.{Origin, function, ground_of}
use Rattle.js_meaning.specs.State.{Ground}
use Rattle.js_value.specs.Value.{PlainValue, PlainSet}
use Rattle.js_value.specs.declared.value.Value.{Value}
use Rattle.js_value.specs.Views.{plain_value}
use Rattle.bp_log.specs.Options.{PlainOptions}
use Rattle.bp_log.specs.declared.limits.TheConstants.{MOST_WAITING, MOST_THREADS}
use Rattle.bp_run.specs.Bodies.{Effect}
use Rattle.bp_run.specs.Bodies.Effect.{Register}
use Rattle.bp_log.specs.declared.verdict.Place.{Place}
use Rattle.bp_log.specs.declared.verdict.Verdict.TheVariants as verdict
use Rattle.std.proofs.lemmas.Bool.{eq-eqb, ne_eqb}
use Rattle.std.proofs.lemmas.List.{length-map}
use Rattle.std.proofs.lemmas.Option.{none-some}
use Rattle.bp_code.specs.Code.{ground_for}
use Rattle.bp_run.specs.Configuration.{change}
use Rattle.bp_run.specs.Settling.{Entry, Pair, Ran, registered, merged, stopped, with_effect, with_effects, with_part, unless_over}
use Rattle.bp_run.specs.Settling.Entry.{Runs}
use Rattle.bp_run.specs.Selecting.{Live}
use Rattle.bp_run.proofs.Turns.{length-change}
use Rattle.bp_live.specs.Placing.{placed}
use Rattle.bp_select.specs.Benches.{PlainBench}
use Rattle.bp_floor.specs.inner.Desks.{PlainDesk, Fits}
use Rattle.bp_thread.specs.declared.job.Job.{Job}
use Rattle.bp_thread.specs.Jobs.{PlainJob, plain_job, IsOf, IsFresh}
use Rattle.bp_floor.specs.declared.board.Board.{Board}
use Rattle.bp_floor.specs.inner.Seats.{PlainSeat, seated, is_waiting, is_ready, where_from, stated_from, IsOwn, AreOwn}
use Rattle.bp_floor.specs.inner.Boards.{stand_of, pair_of, retired}
use Rattle.bp_floor.specs.inner.Kept.{Running, IsOn, IsKept, IsBelow, AreBelow, AreFrom, runs_in}
use Rattle.bp_floor.specs.Returns.{entry_in, IsMirrored, IsSameBut}
use Rattle.bp_floor.proofs.Lists.{change_map}
use Rattle.bp_floor.proofs.Places.{where_last0, stated_last, own_last0, from_last, runs_last, where_ended0, own_changed0, stated_changed0}
use Rattle.bp_floor.proofs.Widening.{wider_effects, wider_part, below_more}

pub record Onward (base : Ground) (o : PlainOptions) (old new : Board) : Type 0 where
  pub keeps : (r : Running) (first : ℕ) → IsOn r base o → IsKept r first old → IsKept r first new

pub onward_same : (base : Ground) (o : PlainOptions) (b : Board) → Onward base o b b
onward_same base o b = record { keeps = λ r first h k. k }

pub onward_then : (base : Ground) (o : PlainOptions) (a b c : Board) → Onward base o a b → ((r : Running) (first : ℕ) → IsOn r base o → IsKept r first b → IsKept r first c) → Onward base o a c
onward_then base o a b c x y = record { keeps = λ r first h k. y r first h (x.keeps r first h k) }

-- ---- a b-thread is admitted

pub admitted : (r : Running) (first : ℕ) (base : Ground) (o : PlainOptions) (b new : Board) (name : List ℕ) (callee : PlainValue) (j : Job) → IsOn r base o → length b.seats < MOST_THREADS →
    new.seats ≡ b.seats ++ record { name = name; job = Some j; ended = false } ∷ [] → new.wave ≡ b.wave ++ Runs (length b.seats) ∷ [] → new.desk ≡ b.desk → new.desk.queue ≡ b.desk.queue → IsOf base.program j →
    plain_job j ≡ record { number = length b.seats; name = name; origin = function mode.Thread callee []; replies = []; effects = []; handler = None; outcome = None } → IsFresh base o.budget j → IsKept r first b → IsKept r first new
admitted r first base o b new name callee j on low s w bench queue of p fresh k =
    let seat : PlainSeat = record { name = name; job = Some j; ended = false } in
    let outcome : (plain_job j).outcome ≡ None = ap (λ (x : PlainJob). x.outcome) p in
    let n = length b.seats in
    let own : IsOwn r.program r.options n j = record {
      number_is = ap (λ (x : PlainJob). x.number) p;
      of_program = subst (λ (g : PlainProgram). IsOf g j) on.program_is of;
      effects = ap (λ (x : PlainJob). x.effects) p;
      fresh = λ _. subst (λ (x : Origin). IsFresh (ground_for r.program r.options.budget x) r.options.budget j) (sym (ap (λ (x : PlainJob). x.origin) p))
          (subst (λ (g : Ground). IsFresh g r.options.budget j) on.ground_is (subst (λ (x : PlainOptions). IsFresh base x.budget j) on.options_are fresh));
      stands = λ x h. absurd (none-some x (sym outcome ∙ h));
      outcome = λ x h. absurd (none-some x (sym outcome ∙ h));
    } in
    let waits : is_waiting seat ≡ true = rw outcome refl in
    let ready : is_ready seat ≡ true = rw outcome refl in
    let older = k.older in
    let few = k.few in
    let room = k.room in
    let len : length (b.seats ++ seat ∷ []) ≡ length b.seats + 1 = length-append b.seats (seat ∷ []) in
    let wave : runs_in new.wave ≡ runs_in b.wave ++ n ∷ [] = ap (λ (ns : List (Entry Origin)). runs_in ns) w ∙ runs_last b.wave n in
    record {
      own = subst (λ (ss : List PlainSeat). AreOwn r.program r.options 0 ss) (sym s) (own_last0 r.program r.options b.seats seat k.own own);
      waiting = ap (λ (ss : List PlainSeat). where_from is_waiting 0 ss) s ∙ where_last0 is_waiting b.seats seat waits ∙ ap (λ (ns : List ℕ). ns ++ n ∷ []) k.waiting ∙ sym wave;
      ready = ap (λ (ss : List PlainSeat). where_from is_ready 0 ss) s ∙ where_last0 is_ready b.seats seat ready ∙ ap (λ (ns : List ℕ). ns ++ n ∷ []) k.ready ∙ sym wave;
      mirror = ap (λ (x : PlainDesk). x.bench.live) bench ∙ k.mirror ∙ sym (stated_last 0 b.seats seat (λ m. rw outcome refl)) ∙ ap (λ (ss : List PlainSeat). stated_from 0 ss) (sym s);
      fits = subst (λ (x : PlainDesk). Fits x (ground_of r.program r.options.budget) r.options.budget) (sym bench) k.fits;
      fresh = subst (λ (ns : List ℕ). AreFrom first ns) (sym wave) (from_last first n (runs_in b.wave) k.fresh older);
      older = subst (λ (ss : List PlainSeat). first ≤ length ss) (sym s) (omega (arith, older, len));
      few = subst (λ (ss : List PlainSeat). length ss ≤ MOST_THREADS) (sym s) (omega (arith, low, len));
      room = subst (λ (q : List PlainEvent). length q ≤ MOST_WAITING) (sym queue) room;
    }

-- ---- the desk is asked, and an event is put there

pub pair_asked : (b : Board) (desk : PlainDesk) → desk.queue ≡ b.desk.queue → pair_of b ≡ pair_of (record b { desk = desk })
pair_asked b desk h = ap (λ (q : List PlainEvent). let p : Pair Origin = record (pair_of b) { stand = record (stand_of b) { queue = q } } in p) (sym h)

pub kept_queued : (r : Running) (first : ℕ) (b : Board) (desk : PlainDesk) (e : PlainEvent) → (length b.desk.queue ≡ MOST_WAITING → ⊥) → desk.queue ≡ b.desk.queue ++ e ∷ [] → desk.bench ≡ b.desk.bench →
    ((base : Ground) (budget : ℕ) → Fits b.desk base budget → Fits desk base budget) → IsKept r first b → IsKept r first (record b { desk = desk })
kept_queued r first b desk e not_full h bench fits k =
    let len = length-append b.desk.queue (e ∷ []) in
    let room = k.room in
    record {
      own = k.own;
      waiting = k.waiting;
      ready = k.ready;
      mirror = ap (λ (x : PlainBench). x.live) bench ∙ k.mirror;
      fits = fits (ground_of r.program r.options.budget) r.options.budget k.fits;
      fresh = k.fresh;
      older = k.older;
      few = k.few;
      room = subst (λ (q : List PlainEvent). length q ≤ MOST_WAITING) (sym h) (omega (arith, room, len, not_full));
    }

-- ---- a b-thread has come to its end

pub kept_retired : (r : Running) (first i : ℕ) (b new : Board) → i < length b.seats → i < first → new.seats ≡ change (λ s. record s { ended = true }) i b.seats → new.desk.bench.live ≡ placed i None b.desk.bench.live →
    ((base : Ground) (budget : ℕ) → IsMirrored b → Fits b.desk base budget → Fits new.desk base budget) → new.wave ≡ b.wave → new.desk.queue ≡ b.desk.queue → IsKept r first b → IsKept r first new
kept_retired r first i b new low old s live fits w q k =
    let end : PlainSeat → PlainSeat = λ x. record x { ended = true } in
    let len : length (change end i b.seats) ≡ length b.seats = length-change end i b.seats in
    let older = k.older in
    let few = k.few in
    let room = k.room in
    let from_waits : AreFrom first (where_from is_waiting 0 b.seats) = subst (λ (ns : List ℕ). AreFrom first ns) (sym k.waiting) k.fresh in
    let from_ready : AreFrom first (where_from is_ready 0 b.seats) = subst (λ (ns : List ℕ). AreFrom first ns) (sym k.ready) k.fresh in
    record {
      own = subst (λ (ss : List PlainSeat). AreOwn r.program r.options 0 ss) (sym s) (own_changed0 r.program r.options i end b.seats k.own (λ x y z. z));
      waiting = ap (λ (ss : List PlainSeat). where_from is_waiting 0 ss) s ∙ where_ended0 is_waiting first i b.seats (λ x. refl) from_waits old ∙ k.waiting ∙ ap (λ (ns : List (Entry Origin)). runs_in ns) (sym w);
      ready = ap (λ (ss : List PlainSeat). where_from is_ready 0 ss) s ∙ where_ended0 is_ready first i b.seats (λ x. refl) from_ready old ∙ k.ready ∙ ap (λ (ns : List (Entry Origin)). runs_in ns) (sym w);
      mirror = live ∙ ap (λ (ts : List (Live PlainSet)). placed i None ts) k.mirror ∙ sym (stated_changed0 i end None b.seats low (λ x y n. refl)) ∙ ap (λ (ss : List PlainSeat). stated_from 0 ss) (sym s);
      fits = fits (ground_of r.program r.options.budget) r.options.budget k.mirror k.fits;
      fresh = subst (λ (ns : List (Entry Origin)). AreFrom first (runs_in ns)) (sym w) k.fresh;
      older = subst (λ (ss : List PlainSeat). first ≤ length ss) (sym s) (omega (arith, older, len));
      few = subst (λ (ss : List PlainSeat). length ss ≤ MOST_THREADS) (sym s) (omega (arith, few, len));
      room = subst (λ (x : List PlainEvent). length x ≤ MOST_WAITING) (sym q) room;
    }

pub threads_retired : (i : ℕ) (ss ts : List PlainSeat) → ts ≡ change (λ s. record s { ended = true }) i ss → map seated ts ≡ change (λ t. record t { ended = true }) i (map seated ss)
threads_retired i ss ts h = ap (λ (xs : List PlainSeat). map seated xs) h ∙ change_map seated (λ s. record s { ended = true }) (λ t. record t { ended = true }) i ss (λ s. refl)

pub retired_is : (i : ℕ) (b mid new : Board) → IsSameBut b mid → mid.seats ≡ b.seats → new.seats ≡ change (λ s. record s { ended = true }) i mid.seats → IsSameBut mid new → pair_of new ≡ retired i (pair_of b)
retired_is i b mid new x s e y =
    let threads = threads_retired i b.seats new.seats (e ∙ ap (λ (ss : List PlainSeat). change (λ s. record s { ended = true }) i ss) s) in
    let queue = y.queue ∙ x.queue in
    let transitions = y.transitions ∙ x.transitions in
    let weight = y.weight ∙ x.weight in
    let lines = y.lines ∙ x.lines in
    let verdict = y.verdict ∙ x.verdict in
    let wave = y.wave ∙ x.wave in
    rw (threads, queue, transitions, weight, lines, verdict, wave) refl

-- ---- entries are merged, one after the other

pub record Merging (base : Ground) (o : PlainOptions) (all left : List (Ran Origin (Unit {0}))) (old now : Board) : Type 0 where
  pub merged_is : merged left (pair_of now) ≡ merged all (pair_of old)
  pub wider : length old.seats ≤ length now.seats
  pub below : AreBelow (length old.seats) (map (λ (x : Ran Origin (Unit {0})). x.entry) left)
  pub keeps : (r : Running) (first : ℕ) → IsOn r base o → AreBelow first (map (λ (x : Ran Origin (Unit {0})). x.entry) all) → IsKept r first old →
      AreBelow first (map (λ (x : Ran Origin (Unit {0})). x.entry) left) × IsKept r first now

pub merging_start : (base : Ground) (o : PlainOptions) (all : List (Ran Origin (Unit {0}))) (b : Board) → AreBelow (length b.seats) (map (λ (x : Ran Origin (Unit {0})). x.entry) all) → Merging base o all all b b
merging_start base o all b h = record { merged_is = refl; wider = omega arith; below = h; keeps = λ r first on a k. (a, k) }

pub merging_within : (base : Ground) (o : PlainOptions) (all left : List (Ran Origin (Unit {0}))) (x : Ran Origin (Unit {0})) (old now : Board) → Merging base o all (x ∷ left) old now → IsBelow (length now.seats) x.entry
merging_within base o all left x old now m = below_more (length old.seats) (length now.seats) x.entry m.wider m.below.0

pub merging_next : (base : Ground) (o : PlainOptions) (all left : List (Ran Origin (Unit {0}))) (x : Ran Origin (Unit {0})) (old now new : Board) → Merging base o all (x ∷ left) old now →
    pair_of new ≡ unless_over (with_part x.entry x.part) (pair_of now) →
    ((r : Running) (first : ℕ) → IsOn r base o → IsBelow first x.entry → IsKept r first now → IsKept r first new) → Merging base o all left old new
merging_next base o all left x old now new m h k =
    let more = (wider_part x.entry x.part (pair_of now)).threads in
    let len : length (map seated new.seats) ≡ length (unless_over (with_part x.entry x.part) (pair_of now)).stand.threads = ap (λ (p : Pair Origin). length p.stand.threads) h in
    let a = length-map new.seats seated in
    let b = length-map now.seats seated in
    let w = m.wider in
    record {
      merged_is = ap (λ (p : Pair Origin). merged left p) h ∙ m.merged_is;
      wider = omega (arith, more, len, a, b, w);
      below = m.below.1;
      keeps = λ r first on a k2. let q = m.keeps r first on a k2 in (q.0.1, k r first on q.0.0 q.1);
    }

-- a b-thread that is registered stays so while effects are merged
pub part_within : (at : Place) (xs : List (Effect Origin)) (b new : Board) (n : Entry Origin) → pair_of new ≡ with_effects at xs (pair_of b) → IsBelow (length b.seats) n → IsBelow (length new.seats) n
part_within at xs b new n h k =
    let more = (wider_effects at xs (pair_of b)).threads in
    let len : length (map seated new.seats) ≡ length (with_effects at xs (pair_of b)).stand.threads = ap (λ (p : Pair Origin). length p.stand.threads) h in
    let a = length-map new.seats seated in
    let c = length-map b.seats seated in
    below_more (length b.seats) (length new.seats) n (omega (arith, more, len, a, c)) k

-- as many b-threads as may are registered, or fewer
pub threads_full : (at : Place) (name : List ℕ) (o : Origin) (b : Board) → length b.seats ≡ MOST_THREADS → stopped verdict.Threads (pair_of b) ≡ with_effect at (Register name o) (pair_of b)
threads_full at name o b h =
    let e : nat_eq (length (map seated b.seats)) MOST_THREADS ≡ true = eq-eqb (length (map seated b.seats)) MOST_THREADS (length-map b.seats seated ∙ h) in
    rw e refl

pub threads_few : (at : Place) (name : List ℕ) (o : Origin) (b : Board) → (length b.seats ≡ MOST_THREADS → ⊥) → registered name o (pair_of b) ≡ with_effect at (Register name o) (pair_of b)
threads_few at name o b h =
    let e : nat_eq (length (map seated b.seats)) MOST_THREADS ≡ false =
    ne_eqb (length (map seated b.seats)) MOST_THREADS (λ k. h (sym (length-map b.seats seated) ∙ k)) in
    rw e refl

-- ---- all of them

pub merging_begin : (base : Ground) (o : PlainOptions) (all left : List (Ran Origin (Unit {0}))) (b : Board) → left ≡ all → AreBelow (length b.seats) (map entry_in all) → Merging base o all left b b
merging_begin base o all left b e h = subst (λ (xs : List (Ran Origin (Unit {0}))). Merging base o all xs b b) (sym e) (merging_start base o all b h)

pub merging_left : (base : Ground) (o : PlainOptions) (all left : List (Ran Origin (Unit {0}))) (x : Ran Origin (Unit {0})) (rest : List (Ran Origin (Unit {0}))) (old now : Board) → Merging base o all left old now → left ≡ x ∷ rest →
    Merging base o all (x ∷ rest) old now
merging_left base o all left x rest old now m h = subst (λ (xs : List (Ran Origin (Unit {0}))). Merging base o all xs old now) h m

pub merging_end : (base : Ground) (o : PlainOptions) (all left : List (Ran Origin (Unit {0}))) (old now : Board) → Merging base o all left old now → left ≡ [] →
    (pair_of now ≡ merged all (pair_of old)) × ((r : Running) (first : ℕ) → IsOn r base o → AreBelow first (map entry_in all) → IsKept r first old → IsKept r first now)
merging_end base o all left old now m h =
    let n = subst (λ (xs : List (Ran Origin (Unit {0}))). Merging base o all xs old now) h m in
    (n.merged_is, λ r first on a k. (n.keeps r first on a k).1)

-- the job of a b-thread that has just been registered
pub started_thread : (j : Job) (number n : ℕ) (name named : List ℕ) (callee : PlainValue) (args : List Value) →
    plain_job j ≡ record { number = number; name = named; origin = function mode.Thread callee (map plain_value args); replies = []; effects = []; handler = None; outcome = None } → number ≡ n → named ≡ name → args ≡ [] →
    plain_job j ≡ record { number = n; name = name; origin = function mode.Thread callee []; replies = []; effects = []; handler = None; outcome = None }
started_thread j number n name named callee args p a b e = p ∙ rw (a, b, e) refl
