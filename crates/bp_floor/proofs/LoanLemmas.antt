-- Jobs are taken out, one after the other.
use Rattle.std.proofs.Common.{◌≡◌, ℕ, zero, suc, Bool, true, false, not, ◌&&◌, List, [], ◌∷◌, ◌++◌, length, map, refl, sym, ap, ◌∙◌, subst, arith, Option, Some, None, is_none, is_some, option_map, option_to_list, slice_get, append_assoc, append-nil, if◌then◌else◌}
use Rattle.std.proofs.lemmas.List.{length-map}
use Rattle.std.proofs.lemmas.Option.{same_Some}
use Rattle.std.proofs.lemmas.Bool.{and_parts, and_right}
use Rattle.js_value.specs.Value.{PlainSet}
use Rattle.js_program.specs.PlainProgram.{PlainProgram}
use Rattle.js_meaning.specs.Bodies.{Origin, the_top, ground_of}
use Rattle.js_meaning.specs.State.{Ground}
use Rattle.bp_log.specs.Options.{PlainOptions}
use Rattle.bp_code.specs.Code.{ground_for, sealed_code_of as code_of}
use Rattle.bp_run.specs.Bodies.{Outcome}
use Rattle.bp_run.specs.Configuration.{Thread, change}
use Rattle.bp_run.specs.Settling.{Body, Entry, own_body}
use Rattle.bp_run.specs.Settling.Entry.{The_top, Runs, Stops}
use Rattle.bp_run.proofs.Turns.{length-change}
use Rattle.bp_run.proofs.Numbers.{changed_elsewhere}
use Rattle.bp_thread.specs.declared.job.Job.{Job}
use Rattle.bp_thread.specs.Jobs.{PlainJob, plain_job, IsOf, IsFresh}
use Rattle.bp_floor.specs.declared.entry.Handler.{Handler}
use Rattle.bp_floor.specs.declared.entry.Entry.{Entry as Code_entry}
use Rattle.bp_floor.specs.declared.entry.Entry.TheVariants.{Top, Runs as Code_runs, Stops as Code_stops}
use Rattle.bp_floor.specs.inner.Entries.{handler_seen, entry_seen}
use Rattle.bp_floor.specs.inner.Seats.{PlainSeat, seated, origin_in, replies_in, outcome_in, is_waiting, is_ready, where_from, stop_at, statement_at, stated_from, IsOwn, IsOwnIn, AreOwn}
use Rattle.bp_floor.specs.inner.SeatViews.{job_at}
use Rattle.bp_floor.specs.inner.Kept.{Running, IsBelow, AreBelow, AreFrom, Rises, runs_in}
use Rattle.bp_floor.specs.Loans.{JobFor, IsLent, AreLent, fill, filled, standing}
use Rattle.bp_floor.specs.Returns.{AreLater}
use Rattle.bp_floor.specs.inner.TakenOut.{IsStarted, IsGroundOf, Lends, CanLend, AreOut}
use Rattle.bp_floor.proofs.Lists.{change_map, change_none, change_twice, found, get_map}
use Rattle.bp_floor.proofs.Places.{where_first0, first_is0, where_rises, where_like, stated_like, own_changed0, own_at0}
use Rattle.bp_floor.proofs.ReturnLemmas.{later_alone, nothing_later, filled_none}

-- ---- holes

abbrev pub hollow_one : Thread Origin → Thread Origin
hollow_one t = record t { origin = the_top; replies = [] }

-- the b-threads, with the jobs of these entries out
abbrev pub hollow : List (Entry Origin) → List (Thread Origin) → List (Thread Origin)
hollow [] ts = ts
hollow (The_top ∷ ns) ts = hollow ns ts
hollow (Runs i ∷ ns) ts = hollow ns (change hollow_one i ts)
hollow (Stops i b ∷ ns) ts = hollow ns ts

change_swap : {A : Type 0} (f : A → A) (i j : ℕ) (xs : List A) → change f i (change f j xs) ≡ change f j (change f i xs)
change_swap f i j [] = refl
change_swap f zero zero (x ∷ xs) = refl
change_swap f zero (suc j) (x ∷ xs) = refl
change_swap f (suc i) zero (x ∷ xs) = refl
change_swap f (suc i) (suc j) (x ∷ xs) = ap (λ ys. x ∷ ys) (change_swap f i j xs)

hollow_change : (ns : List (Entry Origin)) (i : ℕ) (ts : List (Thread Origin)) → hollow ns (change hollow_one i ts) ≡ change hollow_one i (hollow ns ts)
hollow_change [] i ts = refl
hollow_change (The_top ∷ ns) i ts = hollow_change ns i ts
hollow_change (Runs j ∷ ns) i ts = ap (λ (us : List (Thread Origin)). hollow ns us) (change_swap hollow_one j i ts) ∙ hollow_change ns i (change hollow_one j ts)
hollow_change (Stops j b ∷ ns) i ts = hollow_change ns i ts

hollow_apart : (ns : List (Entry Origin)) (i : ℕ) (ts : List (Thread Origin)) → AreFrom (suc i) (runs_in ns) → slice_get (hollow ns ts) i ≡ slice_get ts i
hollow_apart [] i ts h = refl
hollow_apart (The_top ∷ ns) i ts h = hollow_apart ns i ts h
hollow_apart (Runs j ∷ ns) i ts h = let a = h.0 in hollow_apart ns i (change hollow_one j ts) h.1 ∙ changed_elsewhere hollow_one j i ts (λ e. omega (arith, a, e))
hollow_apart (Stops j b ∷ ns) i ts h = hollow_apart ns i ts h

own_is : (ts : List (Thread Origin)) (i : ℕ) (t : Thread Origin) → slice_get ts i ≡ Some t → own_body (slice_get ts i) ≡ Some (record { origin = t.origin; replies = t.replies })
own_is ts i t h = ap (λ (o : Option (Thread Origin)). own_body o) h

refill : (j : Job) (t x : Thread Origin) → t.origin ≡ (plain_job j).origin → t.replies ≡ (plain_job j).replies → Some x ≡ Some t → fill (plain_job j) (hollow_one x) ≡ x
refill j t x h k e =
    let f : x ≡ t = cc in
    rw f (ap (λ (o : Origin). let y : Thread Origin = record t { origin = o; replies = (plain_job j).replies } in y) (sym h) ∙ ap (λ (rs : List _). let y : Thread Origin = record t { replies = rs } in y) (sym k))

filled_runs : (r : Running) (i : ℕ) (ns : List (Entry Origin)) (js : List Job) (ts us : List (Thread Origin)) (t : Thread Origin) → us ≡ ts → Rises (i ∷ runs_in ns) → AreBelow (length ts) (Runs i ∷ ns) → slice_get ts i ≡ Some t →
    JobFor (IsLent r.program r.options) i (Some (record { origin = t.origin; replies = t.replies })) js (AreLent r.program r.options (standing us) ns) →
    ((ks : List Job) → AreLent r.program r.options (standing us) ns ks → filled ns ks (hollow ns ts) ≡ ts) → filled (Runs i ∷ ns) js (hollow (Runs i ∷ ns) ts) ≡ ts
filled_runs r i ns [] ts us t e h b g l k = absurd l
filled_runs r i ns (j ∷ js) ts us t e h b g l k =
    let same : change (fill (plain_job j)) i (hollow ns (change hollow_one i ts)) ≡ hollow ns ts =
    ap (λ (xs : List (Thread Origin)). change (fill (plain_job j)) i xs) (hollow_change ns i ts)
    ∙ change_twice (fill (plain_job j)) hollow_one i (hollow ns ts)
    ∙ change_none (λ x. fill (plain_job j) (hollow_one x)) i (hollow ns ts)
    (λ x w. refill j t x (sym l.0.job.origin_is) (sym l.0.job.replies_are) (sym w ∙ hollow_apart ns i ts h.0 ∙ g)) in
    ap (λ (xs : List (Thread Origin)). filled ns js xs) same ∙ k js l.1

-- jobs that are lent fill their places
pub filled_hollow : (r : Running) (ns : List (Entry Origin)) (js : List Job) (ts us : List (Thread Origin)) → us ≡ ts → Rises (runs_in ns) → AreBelow (length ts) ns →
    AreLent r.program r.options (standing us) ns js → filled ns js (hollow ns ts) ≡ ts
filled_hollow r [] js ts us e h b l = refl
filled_hollow r (The_top ∷ ns) [] ts us e h b l = absurd l
filled_hollow r (The_top ∷ ns) (j ∷ js) ts us e h b l = filled_hollow r ns js ts us e h b.1 l.1
filled_hollow r (Stops i None ∷ ns) [] ts us e h b l = sym (filled_none ns (hollow ns ts)) ∙ filled_hollow r ns [] ts us e h b.1 l
filled_hollow r (Stops i None ∷ ns) (j ∷ js) ts us e h b l = filled_hollow r ns (j ∷ js) ts us e h b.1 l
filled_hollow r (Stops i (Some x) ∷ ns) [] ts us e h b l = absurd l
filled_hollow r (Stops i (Some x) ∷ ns) (j ∷ js) ts us e h b l = filled_hollow r ns js ts us e h b.1 l.1
filled_hollow r (Runs i ∷ ns) js ts us e h b l =
    let t = found ts i b.0 in
    let o : own_body (slice_get us i) ≡ Some (record { origin = t.0.origin; replies = t.0.replies }) = ap (λ (xs : List (Thread Origin)). own_body (slice_get xs i)) e ∙ own_is ts i t.0 t.1 in
    let m = subst (λ (x : Option (Body Origin)). JobFor (IsLent r.program r.options) i x js (AreLent r.program r.options (standing us) ns)) o l in
    filled_runs r i ns js ts us t.0 e h b t.1 m (λ ks k. filled_hollow r ns ks ts us e h.1 b.1 k)

-- ---- one after the other

-- the b-threads of these entries are as they were
abbrev pub AreSame : List (Entry Origin) → List PlainSeat → List PlainSeat → Type 0
AreSame [] ss us = Unit {0}
AreSame (The_top ∷ ns) ss us = AreSame ns ss us
AreSame (Runs i ∷ ns) ss us = (slice_get ss i ≡ slice_get us i) × AreSame ns ss us
AreSame (Stops i b ∷ ns) ss us = AreSame ns ss us

same_all : (ns : List (Entry Origin)) (ss : List PlainSeat) → AreSame ns ss ss
same_all [] ss = tt
same_all (The_top ∷ ns) ss = same_all ns ss
same_all (Runs i ∷ ns) ss = (refl, same_all ns ss)
same_all (Stops i b ∷ ns) ss = same_all ns ss

same_changed : (ns : List (Entry Origin)) (f : PlainSeat → PlainSeat) (i : ℕ) (ss us : List PlainSeat) → AreFrom (suc i) (runs_in ns) → AreSame ns ss us → AreSame ns (change f i ss) us
same_changed [] f i ss us h k = tt
same_changed (The_top ∷ ns) f i ss us h k = same_changed ns f i ss us h k
same_changed (Runs j ∷ ns) f i ss us h k = let a = h.0 in (changed_elsewhere f i j ss (λ e. omega (arith, a, e)) ∙ k.0, same_changed ns f i ss us h.1 k.1)
same_changed (Stops j b ∷ ns) f i ss us h k = same_changed ns f i ss us h k

-- Where lending stands: these entries are left, these jobs are out, and with those that are left all will be.
pub record Lending (r : Running) (base : Ground) (o : PlainOptions) (all ns : List (Entry Origin)) (js : List Job) (old ss : List PlainSeat) : Type 0 where
  pub can : CanLend r base o ns ss
  pub waiting : where_from is_waiting 0 ss ≡ where_from is_waiting 0 old
  pub stated : stated_from 0 ss ≡ stated_from 0 old
  pub same : AreSame ns ss old
  pub lent : (ks : List Job) → AreLent r.program r.options (standing (map seated old)) ns ks → AreLent r.program r.options (standing (map seated old)) all (js ++ ks)
  pub hollow_is : hollow ns (map seated ss) ≡ hollow all (map seated old)
  pub count : length ss ≡ length old

pub lending_start : (r : Running) (base : Ground) (o : PlainOptions) (ns : List (Entry Origin)) (ss : List PlainSeat) → CanLend r base o ns ss → Lending r base o ns ns [] ss ss
lending_start r base o ns ss c =
    record { can = c; waiting = refl; stated = refl; same = same_all ns ss; lent = λ ks k. k; hollow_is = refl; count = refl }

pub lending_end : (r : Running) (base : Ground) (o : PlainOptions) (all : List (Entry Origin)) (js : List Job) (old ss : List PlainSeat) → CanLend r base o all old → Lending r base o all [] js old ss → AreOut r all js old ss
lending_end r base o all js old ss c l =
    let lent = subst (λ (ks : List Job). AreLent r.program r.options (standing (map seated old)) all ks) (append-nil js) (l.lent [] refl) in
    let len = length-map old seated in
    record {
      lent = lent;
      full = ap (λ (ts : List (Thread Origin)). filled all js ts) l.hollow_is
          ∙ filled_hollow r all js (map seated old) (map seated old) refl
          (subst (λ (ns : List ℕ). Rises ns) c.ready (where_rises is_ready 0 old)) (subst (λ (n : ℕ). AreBelow n all) (sym len) c.below) lent;
      own = l.can.own;
      ready = l.can.ready;
      waiting = l.waiting;
      stated = l.stated;
      count = l.count;
    }

later_first : (r : Running) (base : Ground) (ns : List (Entry Origin)) → AreLater ns → base ≡ ground_of r.program r.options.budget → IsGroundOf r base ns
later_first r base [] h g = tt
later_first r base (The_top ∷ ns) h g = absurd h
later_first r base (Runs i ∷ ns) h g = g
later_first r base (Stops i b ∷ ns) h g = g

out_waits_at : (b : Bool) (o : Option Job) → ((not b && is_none (outcome_in o)) && is_some o) ≡ true → (not b && true) ≡ (not b && is_none (outcome_in o))
out_waits_at true o h = refl
out_waits_at false None h = refl
out_waits_at false (Some j) h = sym (and_parts (is_none (plain_job j).outcome) true h).0

stop_none : (k : ℕ) (o : Option (Outcome PlainSet)) → is_none o ≡ true → None ≡ stop_at k o
stop_none k None h = refl
stop_none k (Some x) h = absurd (cc)

out_states_at : (k : ℕ) (b : Bool) (o : Option Job) → ((not b && is_none (outcome_in o)) && is_some o) ≡ true → (if b then None else stop_at k None) ≡ (if b then None else stop_at k (outcome_in o))
out_states_at k true o h = refl
out_states_at k false None h = refl
out_states_at k false (Some j) h = stop_none k (plain_job j).outcome (and_parts (is_none (plain_job j).outcome) true h).0

later_can : (r : Running) (base : Ground) (o : PlainOptions) (ns : List (Entry Origin)) (ss : List PlainSeat) → AreOwn r.program r.options 0 ss → where_from is_ready 0 ss ≡ runs_in ns → AreLater ns → AreBelow (length ss) ns →
    base.program ≡ r.program → base ≡ ground_of r.program r.options.budget → o ≡ r.options → CanLend r base o ns ss
later_can r base o ns ss own ready later below p g e =
    record { own = own; ready = ready; alone = later_alone ns later; below = below; program_is = p; ground_is = later_first r base ns later g; options_are = e }

-- with one more job
append_job : (P : List Job → Type 0) (js ks ms : List Job) → P (js ++ (ks ++ ms)) → P ((js ++ ks) ++ ms)
append_job P js ks ms h = subst P (sym (append_assoc js ks ms)) h

lending_more : (r : Running) (base : Ground) (o : PlainOptions) (all : List (Entry Origin)) (n : Entry Origin) (ns : List (Entry Origin)) (js more : List Job) (old ss : List PlainSeat) → Lending r base o all (n ∷ ns) js old ss →
    ((ks : List Job) → AreLent r.program r.options (standing (map seated old)) ns ks → AreLent r.program r.options (standing (map seated old)) (n ∷ ns) (more ++ ks)) →
    (ks : List Job) → AreLent r.program r.options (standing (map seated old)) ns ks → AreLent r.program r.options (standing (map seated old)) all ((js ++ more) ++ ks)
lending_more r base o all n ns js more old ss l h ks k =
    append_job (AreLent r.program r.options (standing (map seated old)) all) js more ks (l.lent (more ++ ks) (h ks k))

started_lent : (r : Running) (base : Ground) (o : PlainOptions) (n : ℕ) (b : Body Origin) (j : Job) → IsStarted base o n b.origin j → b.replies ≡ [] → base.program ≡ r.program → base ≡ ground_for r.program r.options.budget b.origin → o ≡ r.options →
    IsLent r.program r.options n b j
started_lent r base o n b j s e p g h =
    record {
      job = record { number_is = s.number_is; origin_is = s.origin_is; replies_are = s.replies ∙ sym e; of_program = subst (λ (x : PlainProgram). IsOf x j) p s.of_program };
      effects = s.effects;
      outcome = s.outcome;
      fresh = subst (λ (x : Ground). IsFresh x r.options.budget j) g (subst (λ (x : PlainOptions). IsFresh base x.budget j) h s.fresh);
    }

lend_top : (r : Running) (base : Ground) (o : PlainOptions) (all ns : List (Entry Origin)) (js more : List Job) (old ss new : List PlainSeat) → Lends base o The_top ss new more →
    Lending r base o all (The_top ∷ ns) js old ss → Lending r base o all ns (js ++ more) old new
unfolding code_of
lend_top r base o all ns js more old ss new h l =
    let c = l.can in
    let lent = started_lent r base o 0 (record { origin = the_top; replies = [] }) h.1 h.3 refl c.program_is c.ground_is c.options_are in
    subst (λ (us : List PlainSeat). Lending r base o all ns (js ++ more) old us) (sym h.0) (record {
      can = record {
        own = c.own;
        ready = c.ready;
        alone = later_alone ns (nothing_later ns c.alone);
        below = c.below.1;
        program_is = c.program_is;
        ground_is = subst (λ (ms : List (Entry Origin)). IsGroundOf r base ms) (sym c.alone) tt;
        options_are = c.options_are;
      };
      waiting = l.waiting;
      stated = l.stated;
      same = l.same;
      lent = lending_more r base o all The_top ns js more old ss l (λ ks k. subst (λ (xs : List Job). AreLent r.program r.options (standing (map seated old)) (The_top ∷ ns) (xs ++ ks)) (sym h.2) (lent, k));
      hollow_is = l.hollow_is;
      count = l.count;
    })

lend_none : (r : Running) (base : Ground) (o : PlainOptions) (i : ℕ) (all ns : List (Entry Origin)) (js more : List Job) (old ss new : List PlainSeat) → Lends base o (Stops i None) ss new more →
    Lending r base o all (Stops i None ∷ ns) js old ss → Lending r base o all ns (js ++ more) old new
lend_none r base o i all ns js more old ss new h l =
    let c = l.can in
    subst (λ (us : List PlainSeat). Lending r base o all ns (js ++ more) old us) (sym h.0) (record {
      can = later_can r base o ns ss c.own c.ready c.alone c.below.1 c.program_is c.ground_is c.options_are;
      waiting = l.waiting;
      stated = l.stated;
      same = l.same;
      lent = lending_more r base o all (Stops i None) ns js more old ss l (λ ks k. subst (λ (xs : List Job). AreLent r.program r.options (standing (map seated old)) (Stops i None ∷ ns) (xs ++ ks)) (sym h.1) k);
      hollow_is = l.hollow_is;
      count = l.count;
    })

-- a handler stands on what the top level left
abbrev IsCalled : Running → Body Origin → Type 0
IsCalled r b = ground_for r.program r.options.budget b.origin ≡ ground_of r.program r.options.budget

lend_stops : (r : Running) (base : Ground) (o : PlainOptions) (i : ℕ) (b : Body Origin) (all ns : List (Entry Origin)) (js more : List Job) (old ss new : List PlainSeat) → Lends base o (Stops i (Some b)) ss new more → IsCalled r b →
    Lending r base o all (Stops i (Some b) ∷ ns) js old ss → Lending r base o all ns (js ++ more) old new
lend_stops r base o i b all ns js more old ss new h called l =
    let c = l.can in
    let lent = started_lent r base o i b h.2 h.4 h.1 c.program_is (c.ground_is ∙ sym called) c.options_are in
    subst (λ (us : List PlainSeat). Lending r base o all ns (js ++ more) old us) (sym h.0) (record {
      can = later_can r base o ns ss c.own c.ready c.alone c.below.1 c.program_is c.ground_is c.options_are;
      waiting = l.waiting;
      stated = l.stated;
      same = l.same;
      lent = lending_more r base o all (Stops i (Some b)) ns js more old ss l (λ ks k. subst (λ (xs : List Job). AreLent r.program r.options (standing (map seated old)) (Stops i (Some b) ∷ ns) (xs ++ ks)) (sym h.3) (lent, k));
      hollow_is = l.hollow_is;
      count = l.count;
    })

-- one that is ready has its job, which has not run
record Ready (s : PlainSeat) : Type 0 where
  pub job : Job
  pub is_job : s.job ≡ Some job
  pub outcome : (plain_job job).outcome ≡ None

none_is : (o : Option (Outcome PlainSet)) → is_none o ≡ true → o ≡ None
none_is None h = refl
none_is (Some x) h = absurd (cc)

ready_job : (b : Bool) (o : Option Job) → ((not b && is_none (outcome_in o)) && is_some o) ≡ true → (j : Job) × (o ≡ Some j) × ((plain_job j).outcome ≡ None)
ready_job true o h = absurd (cc)
ready_job false None h = absurd (cc)
ready_job false (Some j) h = (j, refl, none_is (plain_job j).outcome (and_parts (is_none (plain_job j).outcome) true h).0)

ready_at : (s : PlainSeat) → is_ready s ≡ true → Ready s
ready_at s h = let r = ready_job s.ended s.job h in record { job = r.0; is_job = r.1; outcome = r.2 }

out_waits : (s : PlainSeat) → is_ready s ≡ true → is_waiting (record s { job = None }) ≡ is_waiting s
out_waits s h = out_waits_at s.ended s.job h

out_states : (k : ℕ) (s : PlainSeat) → is_ready s ≡ true → statement_at k (record s { job = None }) ≡ statement_at k s
out_states k s h = out_states_at k s.ended s.job h

lend_runs : (r : Running) (base : Ground) (o : PlainOptions) (i : ℕ) (all ns : List (Entry Origin)) (js more : List Job) (old ss new : List PlainSeat) → Lends base o (Runs i) ss new more →
    Lending r base o all (Runs i ∷ ns) js old ss → Lending r base o all ns (js ++ more) old new
lend_runs r base o i all ns js more old ss new h l =
    let c = l.can in
    let out : PlainSeat → PlainSeat = λ s. record s { job = None } in
    let f = found ss i c.below.0 in
    let s = f.0 in
    let is : is_ready s ≡ true = first_is0 is_ready i ss (runs_in ns) s c.ready f.1 in
    let j = ready_at s is in
    let own : IsOwn r.program r.options i j.job = subst (λ (x : Option Job). IsOwnIn r.program r.options i x) j.is_job (own_at0 r.program r.options i ss s c.own f.1) in
    let one : more ≡ j.job ∷ [] = h.1 ∙ ap (λ (x : Option PlainSeat). option_to_list (job_at x)) f.1 ∙ ap (λ (x : Option Job). option_to_list x) j.is_job in
    let there : slice_get (map seated old) i ≡ Some (seated s) = get_map seated old i s (sym l.same.0 ∙ f.1) in
    let body : own_body (slice_get (map seated old) i) ≡ Some (record { origin = (plain_job j.job).origin; replies = (plain_job j.job).replies }) =
    ap (λ (x : Option (Thread Origin)). own_body x) there ∙ ap (λ (x : Option Job). let b : Option (Body Origin) = Some (record { origin = origin_in x; replies = replies_in x }) in b) j.is_job in
    let lent : IsLent r.program r.options i (record { origin = (plain_job j.job).origin; replies = (plain_job j.job).replies }) j.job = record {
      job = record { number_is = own.number_is; origin_is = refl; replies_are = refl; of_program = own.of_program };
      effects = own.effects;
      outcome = j.outcome;
      fresh = own.fresh j.outcome;
    } in
    let rises : Rises (i ∷ runs_in ns) = subst (λ (xs : List ℕ). Rises xs) c.ready (where_rises is_ready 0 ss) in
    let len : length (change out i ss) ≡ length ss = length-change out i ss in
    let count = l.count in
    subst (λ (us : List PlainSeat). Lending r base o all ns (js ++ more) old us) (sym h.0) (record {
      can = later_can r base o ns (change out i ss) (own_changed0 r.program r.options i out ss c.own (λ x w y. tt))
          (where_first0 is_ready i out ss (runs_in ns) c.ready (λ x w. and_right (not x.ended && is_none (outcome_in None)) false refl)) c.alone (subst (λ (n : ℕ). AreBelow n ns) (sym len) c.below.1) c.program_is c.ground_is c.options_are;
      waiting = where_like is_waiting 0 i out ss (λ x w. out_waits x (ap is_ready (same_Some x s (sym w ∙ f.1)) ∙ is)) ∙ l.waiting;
      stated = stated_like 0 i out ss (λ x w k. out_states k x (ap is_ready (same_Some x s (sym w ∙ f.1)) ∙ is)) ∙ l.stated;
      same = same_changed ns out i ss old rises.0 l.same.1;
      lent = lending_more r base o all (Runs i) ns js more old ss l (λ ks k. subst (λ (xs : List Job). AreLent r.program r.options (standing (map seated old)) (Runs i ∷ ns) (xs ++ ks)) (sym one)
          (subst (λ (x : Option (Body Origin)). JobFor (IsLent r.program r.options) i x (j.job ∷ ks) (AreLent r.program r.options (standing (map seated old)) ns)) (sym body) (lent, k)));
      hollow_is = ap (λ (ts : List (Thread Origin)). hollow ns ts) (change_map seated out hollow_one i ss (λ x. refl)) ∙ l.hollow_is;
      count = len ∙ count;
    })

-- an entry's handler is a function
abbrev pub CalledIn : Running → Entry Origin → Type 0
CalledIn r The_top = Unit {0}
CalledIn r (Runs i) = Unit {0}
CalledIn r (Stops i None) = Unit {0}
CalledIn r (Stops i (Some b)) = IsCalled r b

called_handler : (r : Running) (i : ℕ) (h : Option Handler) → CalledIn r (Stops i (option_map handler_seen h))
called_handler r i None = tt
called_handler r i (Some h) = refl

pub called : (r : Running) (n : Code_entry) → CalledIn r (entry_seen n)
called r Top = tt
called r (Code_runs i) = tt
called r (Code_stops i h) = called_handler r i h

pub lending_next : (r : Running) (base : Ground) (o : PlainOptions) (n : Entry Origin) (all ns : List (Entry Origin)) (js more : List Job) (old ss new : List PlainSeat) → Lends base o n ss new more → CalledIn r n →
    Lending r base o all (n ∷ ns) js old ss → Lending r base o all ns (js ++ more) old new
lending_next r base o The_top all ns js more old ss new h a l = lend_top r base o all ns js more old ss new h l
lending_next r base o (Runs i) all ns js more old ss new h a l = lend_runs r base o i all ns js more old ss new h l
lending_next r base o (Stops i None) all ns js more old ss new h a l = lend_none r base o i all ns js more old ss new h l
lending_next r base o (Stops i (Some b)) all ns js more old ss new h a l = lend_stops r base o i b all ns js more old ss new h a l

-- Where lending stands, for whatever program runs.
pub record Outgoing (base : Ground) (o : PlainOptions) (all left : List (Entry Origin)) (js : List Job) (old ss : List PlainSeat) : Type 0 where
  pub goes : (r : Running) → CanLend r base o all old → Lending r base o all left js old ss
  pub some : Running
  pub begins : CanLend some base o all old

pub outgoing_start : (base : Ground) (o : PlainOptions) (all left : List (Entry Origin)) (ss : List PlainSeat) (r : Running) → CanLend r base o all ss → left ≡ all → Outgoing base o all left [] ss ss
outgoing_start base o all left ss r c h =
    subst (λ (ns : List (Entry Origin)). Outgoing base o all ns [] ss ss) (sym h) (record { goes = λ s k. lending_start s base o all ss k; some = r; begins = c })

pub outgoing_below : (base : Ground) (o : PlainOptions) (all left : List (Entry Origin)) (js : List Job) (old ss : List PlainSeat) (n : Entry Origin) (ns : List (Entry Origin)) → Outgoing base o all left js old ss → left ≡ n ∷ ns → IsBelow (length ss) n
outgoing_below base o all left js old ss n ns g h = let b = subst (λ (ms : List (Entry Origin)). AreBelow (length ss) ms) h (g.goes g.some g.begins).can.below in b.0

pub outgoing_next : (base : Ground) (o : PlainOptions) (all left : List (Entry Origin)) (js more next : List Job) (old ss new : List PlainSeat) (n : Code_entry) (ns : List (Entry Origin)) → Outgoing base o all left js old ss → left ≡ entry_seen n ∷ ns →
    Lends base o (entry_seen n) ss new more → next ≡ js ++ more → Outgoing base o all ns next old new
outgoing_next base o all left js more next old ss new n ns g h l e =
    subst (λ (ks : List Job). Outgoing base o all ns ks old new) (sym e) (record {
      goes = λ r c.
          lending_next r base o (entry_seen n) all ns js more old ss new l (called r n)
          (subst (λ (ms : List (Entry Origin)). Lending r base o all ms js old ss) h (g.goes r c));
      some = g.some;
      begins = g.begins;
    })

pub outgoing_end : (base : Ground) (o : PlainOptions) (all left : List (Entry Origin)) (js : List Job) (old ss : List PlainSeat) → Outgoing base o all left js old ss → left ≡ [] → (r : Running) → CanLend r base o all old → AreOut r all js old ss
outgoing_end base o all left js old ss g h r c = lending_end r base o all js old ss c (subst (λ (ms : List (Entry Origin)). Lending r base o all ms js old ss) h (g.goes r c))

-- a job that has just been made
pub started : (base : Ground) (o : PlainOptions) (number : ℕ) (name : List ℕ) (origin : Origin) (j : Job) (budget : ℕ) →
    plain_job j ≡ record { number = number; name = name; origin = origin; replies = []; effects = []; handler = None; outcome = None } → IsOf base.program j → budget ≡ o.budget → IsFresh base budget j → IsStarted base o number origin j
started base o number name origin j budget p q h w =
    record {
      number_is = ap (λ (x : PlainJob). x.number) p;
      origin_is = ap (λ (x : PlainJob). x.origin) p;
      replies = ap (λ (x : PlainJob). x.replies) p;
      effects = ap (λ (x : PlainJob). x.effects) p;
      outcome = ap (λ (x : PlainJob). x.outcome) p;
      of_program = q;
      fresh = subst (λ (n : ℕ). IsFresh base n j) h w;
    }
