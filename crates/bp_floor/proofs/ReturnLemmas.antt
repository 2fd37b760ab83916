-- Jobs come back, one after the other.
use Rattle.std.proofs.Common.{◌≡◌, ℕ, ◌<◌, ◌≤◌, true, false, not, ◌&&◌, List, [], ◌∷◌, ◌++◌, length, map, refl, sym, ap, ◌∙◌, subst, arith, append_assoc, append-nil, Option, Some, None, is_none, is_some, slice_get}
use Rattle.std.proofs.lemmas.Option.{same_Some}
use Rattle.std.proofs.lemmas.List.{length-map}
use Rattle.std.proofs.lemmas.Bool.{and_right, and_left}
use Rattle.js_data.specs.Event.{PlainEvent}
use Rattle.js_value.specs.Value.{PlainValue, PlainSet}
use Rattle.js_program.specs.PlainProgram.{PlainProgram}
use Rattle.js_meaning.specs.Bodies.{Origin, the_top, bare, ground_of, evaluation, constants_left}
use Rattle.js_meaning.specs.State as js
use Rattle.js_meaning.specs.State.{Ground}
use Rattle.bp_log.specs.declared.limits.TheConstants.{MOST_WAITING, MOST_THREADS}
use Rattle.bp_run.specs.Bodies as run
use Rattle.bp_run.specs.Bodies.{Part, Outcome}
use Rattle.bp_run.specs.Configuration.{Thread, change}
use Rattle.bp_run.specs.Settling.{Body, Entry, Ran, body_of, own_body, part_of}
use Rattle.bp_run.specs.Settling.Entry.{The_top, Runs, Stops}
use Rattle.bp_run.specs.Numbers.{number_of}
use Rattle.bp_run.proofs.Turns.{length-change}
use Rattle.bp_meaning.specs.After.{effect_of, outcome_of}
use Rattle.bp_live.specs.Placing.{placed, live_at}
use Rattle.bp_thread.specs.declared.job.Job.{Job}
use Rattle.bp_thread.specs.Jobs.{PlainJob, plain_job, is_ended, IsOf, StandsAt, StandsFor}
use Rattle.bp_floor.specs.declared.board.Board.{Board}
use Rattle.bp_code.specs.Code.{ground_for, sealed_code_of as code_of}
use Rattle.bp_floor.specs.inner.Seats.{PlainSeat, seated, is_waiting, is_ready, where_from, stop_at, statement_at, stated_from, IsOwn, AreOwn}
use Rattle.bp_floor.specs.inner.Parts.{unstated, unstated_part}
use Rattle.bp_floor.specs.inner.Kept.{Running, runs_in, AreBelow}
use Rattle.bp_floor.specs.Loans.{JobFor, IsCarried, IsDone, AreDone, fill, filled, has_body, standing}
use Rattle.bp_floor.specs.Returns.{ground_at, AreLater, RunsAlone, IsBack, IsSameBut, part_in, Puts, IsTaken, IsKeptBy, IsFilled, ran_in, AreAllBack}
use Rattle.bp_floor.proofs.Lists.{change_map, found}
use Rattle.bp_floor.proofs.Places.{own_changed0, stated_changed0, where_first0, where_none, where_below0, waits_at0}

pub filled_none : (ns : List (Entry Origin)) (ts : List (Thread Origin)) → filled ns [] ts ≡ ts
filled_none [] ts = refl
filled_none (n ∷ ns) ts = refl

pub filled_length : (ns : List (Entry Origin)) (js : List Job) (ts : List (Thread Origin)) → length (filled ns js ts) ≡ length ts
filled_length [] js ts = refl
filled_length (n ∷ ns) [] ts = refl
filled_length (The_top ∷ ns) (j ∷ js) ts = filled_length ns js ts
filled_length (Runs i ∷ ns) (j ∷ js) ts = filled_length ns js (change (fill (plain_job j)) i ts) ∙ length-change (fill (plain_job j)) i ts
filled_length (Stops i None ∷ ns) (j ∷ js) ts = filled_length ns (j ∷ js) ts
filled_length (Stops i (Some b) ∷ ns) (j ∷ js) ts = filled_length ns js ts

filled_idle : (i : ℕ) (ns : List (Entry Origin)) (js : List Job) (ts : List (Thread Origin)) → filled (Stops i None ∷ ns) js ts ≡ filled ns js ts
filled_idle i ns [] ts = sym (filled_none ns ts)
filled_idle i ns (j ∷ js) ts = refl

pub later_alone : {O : Type 0} (ns : List (Entry O)) → AreLater ns → RunsAlone ns
later_alone [] h = tt
later_alone (The_top ∷ ns) h = absurd h
later_alone (Runs i ∷ ns) h = h
later_alone (Stops i b ∷ ns) h = h

pub nothing_later : {O : Type 0} (ns : List (Entry O)) → ns ≡ [] → AreLater ns
nothing_later [] h = tt
nothing_later (n ∷ ns) h = absurd (cc)

pub later_ground : (p : PlainProgram) (budget : ℕ) (ns : List (Entry Origin)) → AreLater ns → ground_at p budget ns ≡ ground_of p budget
later_ground p budget [] h = refl
later_ground p budget (The_top ∷ ns) h = absurd h
later_ground p budget (Runs i ∷ ns) h = refl
later_ground p budget (Stops i b ∷ ns) h = refl

none_at : (Is : ℕ → Body Origin → Job → Type 0) (n : ℕ) (rest : List Job → Type 0) (o : Option (Body Origin)) → is_some o ≡ true → JobFor Is n o [] rest → ⊥
none_at Is n rest None h k = absurd (cc)
none_at Is n rest (Some b) h k = k

open_states : (s : PlainSeat) (n : ℕ) (k : Job) (x : Option (run.Statement PlainSet)) → s.ended ≡ false → stop_at n (plain_job k).outcome ≡ live_at n x → statement_at n (record s { job = Some k }) ≡ live_at n x
open_states s n k x e h = rw e h

-- the job of an entry, and those that come after it
record First (r : Running) (n : Entry Origin) (ts : List (Thread Origin)) (j : Job) (rest : List Job → Type 0) (js : List Job) : Type 0 where
  pub body : Body Origin
  pub is_body : body_of (code_of r.program r.options) (standing ts) n ≡ Some body
  pub done : IsDone r.program r.options (number_of n) body j
  pub left : rest js

first_at : (r : Running) (n : Entry Origin) (ts : List (Thread Origin)) (o : Option (Body Origin)) (j : Job) (js : List Job) (rest : List Job → Type 0) →
    body_of (code_of r.program r.options) (standing ts) n ≡ o → is_some o ≡ true → JobFor (IsDone r.program r.options) (number_of n) o (j ∷ js) rest → First r n ts j rest js
first_at r n ts None j js rest e h k = absurd (cc)
first_at r n ts (Some b) j js rest e h k = record { body = b; is_body = e; done = k.0; left = k.1 }

own_some : (ts : List (Thread Origin)) (i : ℕ) → i < length ts → is_some (own_body (slice_get ts i)) ≡ true
own_some ts i h = let t = found ts i h in ap (λ (o : Option (Thread Origin)). is_some (own_body o)) t.1

-- nothing is put back for an entry without a body
abbrev pub idle_part : Part Origin (Unit {0})
idle_part = record { effects = []; outcome = run.Outcome.Ended }

idle_back : (r : Running) (base : Ground) (i : ℕ) (ns : List (Entry Origin)) (js : List Job) (b : Board) → IsBack r base (Stops i None ∷ ns) js b → IsBack r base ns js b
idle_back r base i ns js b m =
    record {
      done = subst (λ (ts : List (Thread Origin)). AreDone r.program r.options (standing ts) ns js) (filled_idle i ns js (map seated b.seats)) m.done;
      alone = later_alone ns m.alone;
      below = m.below.1;
      own = m.own;
      waiting = m.waiting;
      ready = m.ready;
      mirror = m.mirror;
      fits = m.fits;
      few = m.few;
      room = m.room;
      program_is = m.program_is;
      ground_is = m.ground_is ∙ sym (later_ground r.program r.options.budget ns m.alone);
    }

pub same_but : (b : Board) → IsSameBut b b
same_but b = record { queue = refl; transitions = refl; weight = refl; lines = refl; verdict = refl; wave = refl }

ap_same : (old new : Board) → new ≡ old → IsSameBut old new
ap_same old new h = subst (λ (b : Board). IsSameBut old b) (sym h) (same_but old)

pub puts_nothing : (n : Entry Origin) (js : List Job) (base : Ground) (b : Board) (part : Part Origin (Unit {0})) → has_body n ≡ false → part ≡ idle_part → Puts n js base b js base b part
puts_nothing The_top js base b part h e = absurd (cc)
puts_nothing (Runs i) js base b part h e = absurd (cc)
puts_nothing (Stops i (Some x)) js base b part h e = absurd (cc)
puts_nothing (Stops i None) js base b part h e =
    record {
      back = λ r ns m. idle_back r base i ns js b m;
      threads = λ r ns m. sym (filled_idle i ns js (map seated b.seats));
      part_is = λ r ns m. e;
      same = same_but b;
    }

none_comes : (r : Running) (base : Ground) (n : Entry Origin) (ns : List (Entry Origin)) (b : Board) → has_body n ≡ true → IsBack r base (n ∷ ns) [] b → ⊥
none_comes r base The_top ns b h m = m.done
none_comes r base (Runs i) ns b h m =
    let low = where_below0 is_waiting b.seats i (runs_in ns) m.waiting in
    none_at (IsDone r.program r.options) i (AreDone r.program r.options (standing (map seated b.seats)) ns) (own_body (slice_get (map seated b.seats) i)) (own_some (map seated b.seats) i (rw (length-map b.seats seated) low)) m.done
none_comes r base (Stops i (Some x)) ns b h m = m.done
none_comes r base (Stops i None) ns b h m = absurd (cc)

pub puts_none : (n : Entry Origin) (base : Ground) (b : Board) (part : Part Origin (Unit {0})) → has_body n ≡ true → Puts n [] base b [] base b part
puts_none n base b part h =
    record {
      back = λ r ns m. absurd (none_comes r base n ns b h m);
      threads = λ r ns m. absurd (none_comes r base n ns b h m);
      part_is = λ r ns m. absurd (none_comes r base n ns b h m);
      same = same_but b;
    }

-- the part of a job that is done
part_done : (r : Running) (n : Entry Origin) (ts : List (Thread Origin)) (j : Job) (rest : List Job → Type 0) (js : List Job) (part : Part Origin (Unit {0})) → First r n ts j rest js →
    part.effects ≡ map effect_of (plain_job j).effects → ((x : Outcome PlainSet) → (plain_job j).outcome ≡ Some x → part.outcome ≡ unstated x) → part ≡ part_in r ts n
part_done r n ts j rest js part f e o =
    let l = code_of r.program r.options in
    let x = (l.after f.body.origin f.body.replies).outcome in
    let same : part ≡ unstated_part (l.after f.body.origin f.body.replies) =
    ap (λ (xs : List (run.Effect Origin)). let p : Part Origin (Unit {0}) = record { effects = xs; outcome = part.outcome } in p) (e ∙ f.done.effects)
    ∙ ap (λ (y : Outcome (Unit {0})). let p : Part Origin (Unit {0}) = record { effects = (l.after f.body.origin f.body.replies).effects; outcome = y } in p) (o x f.done.carried.outcome) in
    same ∙ ap (λ (b : Option (Body Origin)). unstated_part (part_of l b)) (sym f.is_body)

-- ---- the job of an entry is put back

taken_carried : (r : Running) (n : ℕ) (b : Body Origin) (j k : Job) → IsCarried r.program r.options n b j → IsTaken j k → IsCarried r.program r.options n b k
taken_carried r n b j k c t =
    record {
      job = record {
        number_is = ap (λ (p : PlainJob). p.number) t.plain ∙ c.job.number_is;
        origin_is = ap (λ (p : PlainJob). p.origin) t.plain ∙ c.job.origin_is;
        replies_are = ap (λ (p : PlainJob). p.replies) t.plain ∙ c.job.replies_are;
        of_program = t.of_program r.program c.job.of_program;
      };
      outcome = ap (λ (p : PlainJob). p.outcome) t.plain ∙ c.outcome;
      stands = t.stands (ground_for r.program r.options.budget b.origin) r.options.budget c.stands;
    }

own_carried : (r : Running) (n : ℕ) (b : Body Origin) (j : Job) → IsCarried r.program r.options n b j → (plain_job j).effects ≡ [] → IsOwn r.program r.options n j
own_carried r n b j c e =
    record {
      number_is = c.job.number_is;
      of_program = c.job.of_program;
      effects = e;
      fresh = λ h. absurd (let o = c.outcome in cc);
      stands = λ x h. subst (λ (o : Origin). StandsFor (ground_for r.program r.options.budget o) r.options.budget j) (sym c.job.origin_is) c.stands;
      outcome = λ x h.
          let same : x ≡ ((code_of r.program r.options).after b.origin b.replies).outcome = same_Some x _ (sym h ∙ c.outcome) in
          same ∙ ap (λ (o : Origin). ((code_of r.program r.options).after o b.replies).outcome) (sym c.job.origin_is)
          ∙ ap (λ (rs : List _). ((code_of r.program r.options).after (plain_job j).origin rs).outcome) (sym c.job.replies_are);
    }

back_top : (r : Running) (base left : Ground) (ns : List (Entry Origin)) (j k : Job) (js : List Job) (old new : Board) → IsTaken j k → IsKeptBy The_top k base old left new →
    base.program ≡ left.program → IsBack r base (The_top ∷ ns) (j ∷ js) old → IsBack r left ns js new
unfolding code_of
back_top r base left ns j k js old new t h p m =
    let c = taken_carried r 0 (record { origin = the_top; replies = [] }) j k m.done.0.carried t in
    let g = h.1 r 0 c m.ground_is in
    subst (λ (b : Board). IsBack r left ns js b) (sym h.0) (record {
      done = m.done.1;
      alone = later_alone ns (nothing_later ns m.alone);
      below = m.below.1;
      own = m.own;
      waiting = m.waiting;
      ready = m.ready;
      mirror = m.mirror;
      fits = m.fits;
      few = m.few;
      room = m.room;
      program_is = sym p ∙ m.program_is;
      ground_is = g ∙ sym (later_ground r.program r.options.budget ns (nothing_later ns m.alone));
    })

back_stops : (r : Running) (base left : Ground) (i : ℕ) (b : Body Origin) (ns : List (Entry Origin)) (j k : Job) (js : List Job) (old new : Board) → IsKeptBy (Stops i (Some b)) k base old left new →
    IsBack r base (Stops i (Some b) ∷ ns) (j ∷ js) old → IsBack r left ns js new
back_stops r base left i b ns j k js old new h m =
    let done = m.done.1 in
    subst (λ (x : Board). IsBack r left ns js x) (sym h.0) (subst (λ (g : Ground). IsBack r g ns js old) (sym h.1) (record {
      done = done;
      alone = later_alone ns m.alone;
      below = m.below.1;
      own = m.own;
      waiting = m.waiting;
      ready = m.ready;
      mirror = m.mirror;
      fits = m.fits;
      few = m.few;
      room = m.room;
      program_is = m.program_is;
      ground_is = m.ground_is ∙ sym (later_ground r.program r.options.budget ns m.alone);
    }))

-- the b-thread of an entry waits
first_runs : (r : Running) (base : Ground) (i : ℕ) (ns : List (Entry Origin)) (j : Job) (js : List Job) (b : Board) → IsBack r base (Runs i ∷ ns) (j ∷ js) b →
    First r (Runs i) (filled (Runs i ∷ ns) (j ∷ js) (map seated b.seats)) j (AreDone r.program r.options (standing (filled (Runs i ∷ ns) (j ∷ js) (map seated b.seats))) ns) js
first_runs r base i ns j js b m =
    let ts = filled (Runs i ∷ ns) (j ∷ js) (map seated b.seats) in
    let low = where_below0 is_waiting b.seats i (runs_in ns) m.waiting in
    let len = filled_length (Runs i ∷ ns) (j ∷ js) (map seated b.seats) ∙ length-map b.seats seated in
    first_at r (Runs i) ts (own_body (slice_get ts i)) j js (AreDone r.program r.options (standing ts) ns) refl (own_some ts i (omega (arith, low, len))) m.done

back_runs : (r : Running) (base left : Ground) (i : ℕ) (ns : List (Entry Origin)) (j k : Job) (js : List Job) (old new : Board) → IsTaken j k → IsKeptBy (Runs i) k base old left new →
    IsBack r base (Runs i ∷ ns) (j ∷ js) old → IsBack r left ns js new
back_runs r base left i ns j k js old new t h m =
    let f = first_runs r base i ns j js old m in
    let c = taken_carried r i f.body j k f.done.carried t in
    let put : PlainSeat → PlainSeat = λ s. record s { job = Some k } in
    let low = where_below0 is_waiting old.seats i (runs_in ns) m.waiting in
    let some : is_none (plain_job k).outcome ≡ false = rw c.outcome refl in
    let seats : map seated (change put i old.seats) ≡ change (fill (plain_job j)) i (map seated old.seats) =
    change_map seated put (fill (plain_job k)) i old.seats (λ s. refl) ∙ ap (λ (p : PlainJob). change (fill p) i (map seated old.seats)) t.plain in
    let own : IsOwn r.program r.options i k = own_carried r i f.body k c (ap (λ (p : PlainJob). p.effects) t.plain) in
    let len : length (change put i old.seats) ≡ length old.seats = length-change put i old.seats in
    let few = m.few in
    let seats_now : map seated new.seats ≡ change (fill (plain_job j)) i (map seated old.seats) = ap (λ (ss : List PlainSeat). map seated ss) h.0.seats ∙ seats in
    let room = m.room in
    subst (λ (g : Ground). IsBack r g ns js new) (sym h.1) (record {
      done = subst (λ (ts : List (Thread Origin)). AreDone r.program r.options (standing (filled ns js ts)) ns js) (sym seats_now) f.left;
      alone = later_alone ns m.alone;
      below = subst (λ (ss : List PlainSeat). AreBelow (length ss) ns) (sym h.0.seats) (subst (λ (n : ℕ). AreBelow n ns) (sym len) m.below.1);
      own = subst (λ (ss : List PlainSeat). AreOwn r.program r.options 0 ss) (sym h.0.seats) (own_changed0 r.program r.options i put old.seats m.own (λ s w y. own));
      waiting = ap (λ (ss : List PlainSeat). where_from is_waiting 0 ss) h.0.seats
          ∙ where_first0 is_waiting i put old.seats (runs_in ns) m.waiting (λ s w. and_right (not s.ended) (is_none (plain_job k).outcome) some);
      ready = ap (λ (ss : List PlainSeat). where_from is_ready 0 ss) h.0.seats
          ∙ where_none is_ready 0 i put old.seats m.ready (λ s w. and_left (not s.ended && is_none (plain_job k).outcome) true (and_right (not s.ended) (is_none (plain_job k).outcome) some));
      mirror = h.0.stated.live ∙ ap (λ (ts : List _). placed i h.0.statement ts) m.mirror
          ∙ sym (stated_changed0 i put h.0.statement old.seats low (λ s w n. open_states s n k h.0.statement (waits_at0 i old.seats (runs_in ns) s m.waiting w) (h.0.stop_is n)))
          ∙ ap (λ (ss : List PlainSeat). stated_from 0 ss) (sym h.0.seats);
      fits = h.0.stated.fits (ground_of r.program r.options.budget) r.options.budget m.mirror m.fits;
      few = subst (λ (ss : List PlainSeat). length ss ≤ MOST_THREADS) (sym h.0.seats) (omega (arith, few, len));
      room = subst (λ (q : List PlainEvent). length q ≤ MOST_WAITING) (sym h.0.stated.same.queue) room;
      program_is = m.program_is;
      ground_is = m.ground_is ∙ sym (later_ground r.program r.options.budget ns m.alone);
    })

-- the job of an entry that has a body
pub puts_kept : (n : Entry Origin) (j k : Job) (js : List Job) (base left : Ground) (old new : Board) (part : Part Origin (Unit {0})) → has_body n ≡ true → IsTaken j k → IsKeptBy n k base old left new →
    base.program ≡ left.program → part.effects ≡ map effect_of (plain_job j).effects → ((x : Outcome PlainSet) → (plain_job k).outcome ≡ Some x → part.outcome ≡ unstated x) →
    Puts n (j ∷ js) base old js left new part
puts_kept The_top j k js base left old new part b t h p e o =
    record {
      back = λ r ns m. back_top r base left ns j k js old new t h p m;
      threads = λ r ns m. ap (λ (x : Board). filled ns js (map seated x.seats)) h.0;
      part_is = λ r ns m.
          part_done r The_top (filled (The_top ∷ ns) (j ∷ js) (map seated old.seats)) j (AreDone r.program r.options (standing (filled (The_top ∷ ns) (j ∷ js) (map seated old.seats))) ns) js part
          (record { body = record { origin = (code_of r.program r.options).top; replies = [] }; is_body = refl; done = m.done.0; left = m.done.1 }) e
          (λ x w. o x (ap (λ (q : PlainJob). q.outcome) t.plain ∙ w));
      same = ap_same old new h.0;
    }
puts_kept (Runs i) j k js base left old new part b t h p e o =
    record {
      back = λ r ns m. back_runs r base left i ns j k js old new t h m;
      threads = λ r ns m.
          ap (λ (ss : List PlainSeat). filled ns js (map seated ss)) h.0.seats
          ∙ ap (λ (ts : List (Thread Origin)). filled ns js ts)
          (change_map seated (λ s. record s { job = Some k }) (fill (plain_job k)) i old.seats (λ s. refl) ∙ ap (λ (q : PlainJob). change (fill q) i (map seated old.seats)) t.plain);
      part_is = λ r ns m.
          part_done r (Runs i) (filled (Runs i ∷ ns) (j ∷ js) (map seated old.seats)) j (AreDone r.program r.options (standing (filled (Runs i ∷ ns) (j ∷ js) (map seated old.seats))) ns) js part
          (first_runs r base i ns j js old m) e (λ x w. o x (ap (λ (q : PlainJob). q.outcome) t.plain ∙ w));
      same = h.0.stated.same;
    }
puts_kept (Stops i None) j k js base left old new part b t h p e o = absurd (cc)
puts_kept (Stops i (Some x)) j k js base left old new part b t h p e o =
    record {
      back = λ r ns m. back_stops r base left i x ns j k js old new h m;
      threads = λ r ns m. ap (λ (y : Board). filled ns js (map seated y.seats)) h.0;
      part_is = λ r ns m.
          part_done r (Stops i (Some x)) (filled (Stops i (Some x) ∷ ns) (j ∷ js) (map seated old.seats)) j (AreDone r.program r.options (standing (filled (Stops i (Some x) ∷ ns) (j ∷ js) (map seated old.seats))) ns) js part
          (record { body = x; is_body = refl; done = m.done.0; left = m.done.1 }) e (λ y w. o y (ap (λ (q : PlainJob). q.outcome) t.plain ∙ w));
      same = ap_same old new h.0;
    }

-- ---- all jobs come back

pub same_then : (a b c : Board) → IsSameBut a b → IsSameBut b c → IsSameBut a c
same_then a b c x y =
    record { queue = y.queue ∙ x.queue; transitions = y.transitions ∙ x.transitions; weight = y.weight ∙ x.weight; lines = y.lines ∙ x.lines; verdict = y.verdict ∙ x.verdict; wave = y.wave ∙ x.wave }

-- Where putting back stands: these entries and jobs are left.
pub record Putting (r : Running) (base : Ground) (all : List (Entry Origin)) (jobs : List Job) (old : Board) (left : List (Entry Origin)) (js : List Job) (now : Ground) (b : Board) (rans : List (Ran Origin (Unit {0}))) : Type 0 where
  pub back : IsBack r now left js b
  pub threads : filled left js (map seated b.seats) ≡ filled all jobs (map seated old.seats)
  pub told : rans ++ map (ran_in r (filled all jobs (map seated old.seats))) left ≡ map (ran_in r (filled all jobs (map seated old.seats))) all
  pub same : IsSameBut old b

pub putting_start : (r : Running) (base : Ground) (all : List (Entry Origin)) (jobs : List Job) (old : Board) → IsBack r base all jobs old → Putting r base all jobs old all jobs base old []
putting_start r base all jobs old m = record { back = m; threads = refl; told = refl; same = same_but old }

pub putting_end : (r : Running) (base : Ground) (all : List (Entry Origin)) (jobs : List Job) (old : Board) (js : List Job) (now : Ground) (b : Board) (rans : List (Ran Origin (Unit {0}))) →
    Putting r base all jobs old [] js now b rans → AreAllBack r all (filled all jobs (map seated old.seats)) now b rans
putting_end r base all jobs old js now b rans p =
    record {
      back = subst (λ (ks : List Job). IsBack r now [] ks b) p.back.done p.back;
      threads = p.threads;
      rans_are = sym (append-nil rans) ∙ p.told;
    }

pub putting_next : (r : Running) (base : Ground) (all : List (Entry Origin)) (jobs : List Job) (old : Board) (n : Entry Origin) (left : List (Entry Origin)) (js ks : List Job) (now next : Ground) (b new : Board) (rans more : List (Ran Origin (Unit {0}))) (x : Ran Origin (Unit {0})) →
    Putting r base all jobs old (n ∷ left) js now b rans → Puts n js now b ks next new x.part → x.entry ≡ n → more ≡ rans ++ x ∷ [] → Putting r base all jobs old left ks next new more
putting_next r base all jobs old n left js ks now next b new rans more x p h e m =
    let ts = filled all jobs (map seated old.seats) in
    let part : x.part ≡ part_in r ts n = h.part_is r left p.back ∙ ap (λ (us : List (Thread Origin)). part_in r us n) p.threads in
    let one : x ≡ ran_in r ts n = ap (λ (y : Entry Origin). let z : Ran Origin (Unit {0}) = record { entry = y; part = x.part } in z) e ∙ ap (λ (y : Part Origin (Unit {0})). let z : Ran Origin (Unit {0}) = record { entry = n; part = y } in z) part in
    record {
      back = h.back r left p.back;
      threads = h.threads r left p.back ∙ p.threads;
      told = ap (λ (ys : List (Ran Origin (Unit {0}))). ys ++ map (ran_in r ts) left) m ∙ append_assoc rans (x ∷ []) (map (ran_in r ts) left)
          ∙ ap (λ (y : Ran Origin (Unit {0})). rans ++ y ∷ map (ran_in r ts) left) one ∙ p.told;
      same = same_then old b new p.same h.same;
    }

-- the same for whatever program runs
pub record Goes (base : Ground) (all : List (Entry Origin)) (jobs : List Job) (old : Board) (left : List (Entry Origin)) (js : List Job) (now : Ground) (b : Board) (rans : List (Ran Origin (Unit {0}))) : Type 0 where
  pub goes : (r : Running) → IsBack r base all jobs old → Putting r base all jobs old left js now b rans
  pub some : Running
  pub begins : IsBack some base all jobs old
  pub same : IsSameBut old b

pub goes_start : (base : Ground) (all : List (Entry Origin)) (jobs : List Job) (old : Board) (r : Running) → IsBack r base all jobs old → Goes base all jobs old all jobs base old []
goes_start base all jobs old r m = record { goes = λ s k. putting_start s base all jobs old k; some = r; begins = m; same = same_but old }

pub goes_some : (base : Ground) (all : List (Entry Origin)) (jobs : List Job) (old : Board) (left : List (Entry Origin)) (js : List Job) (now : Ground) (b : Board) (rans : List (Ran Origin (Unit {0}))) →
    Goes base all jobs old left js now b rans → (r : Running) × IsBack r now left js b
goes_some base all jobs old left js now b rans g = (g.some, (g.goes g.some g.begins).back)

pub goes_next : (base : Ground) (all : List (Entry Origin)) (jobs : List Job) (old : Board) (n : Entry Origin) (left : List (Entry Origin)) (js ks : List Job) (now next : Ground) (b new : Board) (rans more : List (Ran Origin (Unit {0}))) (x : Ran Origin (Unit {0})) →
    Goes base all jobs old (n ∷ left) js now b rans → Puts n js now b ks next new x.part → x.entry ≡ n → more ≡ rans ++ x ∷ [] → Goes base all jobs old left ks next new more
goes_next base all jobs old n left js ks now next b new rans more x g h e m =
    record {
      goes = λ r k. putting_next r base all jobs old n left js ks now next b new rans more x (g.goes r k) h e m;
      some = g.some;
      begins = g.begins;
      same = same_then old b new g.same h.same;
    }

-- what is left of entries and jobs
pub goes_left : (base : Ground) (all : List (Entry Origin)) (jobs : List Job) (old : Board) (left : List (Entry Origin)) (js : List Job) (now : Ground) (b : Board) (rans : List (Ran Origin (Unit {0}))) (n : Entry Origin) (ns : List (Entry Origin)) →
    Goes base all jobs old left js now b rans → left ≡ n ∷ ns → Goes base all jobs old (n ∷ ns) js now b rans
goes_left base all jobs old left js now b rans n ns g h = subst (λ (ms : List (Entry Origin)). Goes base all jobs old ms js now b rans) h g

pub goes_end : (base : Ground) (all : List (Entry Origin)) (jobs : List Job) (old : Board) (left : List (Entry Origin)) (js : List Job) (now : Ground) (b : Board) (rans : List (Ran Origin (Unit {0}))) → Goes base all jobs old left js now b rans →
    left ≡ [] → (r : Running) → IsBack r base all jobs old → AreAllBack r all (filled all jobs (map seated old.seats)) now b rans
goes_end base all jobs old left js now b rans g h r m =
    putting_end r base all jobs old js now b rans (subst (λ (ms : List (Entry Origin)). Putting r base all jobs old ms js now b rans) h (g.goes r m))

-- ---- the constants that the top level leaves

none_left : (e : js.Outcome) → (outcome_of e ≡ run.Outcome.Ended → ⊥) → constants_left e ≡ []
none_left (js.went c s) h = absurd (h refl)
none_left (js.broken f line left) h = refl
none_left (js.violated text left) h = refl
none_left (js.spent left) h = refl
none_left (js.stopped statement priority line left) h = refl

-- the top level came to its end
pub filled_ended : (j : Job) (cs : List (Option PlainValue)) (old new : Ground) →
    ((base : Ground) (budget : ℕ) → StandsFor base budget j → (plain_job j).origin ≡ the_top → cs ≡ constants_left (evaluation base budget the_top (plain_job j).replies)) → new ≡ record old { constants = cs } → IsFilled j old new
unfolding ground_of
filled_ended j cs old new h k = λ r n c e.
    let left = h (bare r.program) r.options.budget c.stands c.job.origin_is
    ∙ ap (λ (es : List PlainEvent). constants_left (evaluation (bare r.program) r.options.budget the_top es)) c.job.replies_are in
    k ∙ ap (λ (g : Ground). let x : Ground = record g { constants = cs } in x) e ∙ ap (λ (xs : List (Option PlainValue)). let x : Ground = record { program = r.program; constants = xs } in x) left

-- it did not, so nothing is left of it
not_ended : (o : Option (Outcome PlainSet)) → is_ended o ≡ false → o ≡ Some run.Outcome.Ended → ⊥
not_ended o h k = let e : is_ended o ≡ true = ap (λ (x : Option (Outcome PlainSet)). is_ended x) k in absurd (cc)

pub filled_not : (j : Job) (old : Ground) → is_ended (plain_job j).outcome ≡ false → IsFilled j old old
unfolding ground_of code_of
filled_not j old h = λ r n c e.
    let o = evaluation (bare r.program) r.options.budget the_top [] in
    e ∙ ap (λ (xs : List (Option PlainValue)). let x : Ground = record { program = r.program; constants = xs } in x) (sym (none_left o (λ w. not_ended (plain_job j).outcome h (c.outcome ∙ ap (λ (x : Outcome PlainSet). Some x) w))))

pub goes_begin : (base : Ground) (all left : List (Entry Origin)) (jobs : List Job) (old : Board) (rans : List (Ran Origin (Unit {0}))) (r : Running) → left ≡ all → rans ≡ [] → IsBack r base all jobs old → Goes base all jobs old left jobs base old rans
goes_begin base all left jobs old rans r h k m =
    subst (λ (ns : List (Entry Origin)). Goes base all jobs old ns jobs base old rans) (sym h)
    (subst (λ (xs : List (Ran Origin (Unit {0}))). Goes base all jobs old all jobs base old xs) (sym k) (goes_start base all jobs old r m))

-- no job comes where one should
pub puts_none_left : (n : Entry Origin) (js ks : List Job) (base : Ground) (b : Board) (part : Part Origin (Unit {0})) → js ≡ [] → ks ≡ [] → has_body n ≡ true → Puts n js base b ks base b part
puts_none_left n js ks base b part h k w =
    subst (λ (xs : List Job). Puts n xs base b ks base b part) (sym h) (subst (λ (ys : List Job). Puts n [] base b ys base b part) (sym k) (puts_none n base b part w))

-- what taking the effects of a job leaves
pub taken : (j k : Job) → plain_job k ≡ record (plain_job j) { effects = [] } → ((program : PlainProgram) → IsOf program j → IsOf program k) →
    ((base : Ground) (budget begun : ℕ) (made : List js.Effect) → StandsAt base budget begun made j → StandsAt base budget begun made k) → IsTaken j k
taken j k p q s = record { plain = p; of_program = q; stands = λ base budget h. record { begun = h.begun; made = h.made; stands = s base budget h.begun h.made h.stands } }
