-- Which steps are legal, by what a core has.
use Rattle.std.proofs.Common.{◌≡◌, ◌<◌, ℕ, zero, suc, Bool, true, false, not, ◌&&◌, nat_lt, nat_eq, List, [], ◌∷◌, ◌++◌, length, arith, refl, sym, ap, ◌∙◌, subst, Option, Some, None, is_none, is_some, if◌then◌else◌, slice_get}
use Rattle.std.specs.Prelude.{option_and_then, option_map}
use Rattle.std.specs.List.{list_any, list_all}
use Rattle.std.proofs.lemmas.Bool.{and_parts}
use Rattle.js_data.specs.Event.{PlainEvent}
use Rattle.js_value.specs.Value.{PlainSet}
use Rattle.js_meaning.specs.State.{Ground}
use Rattle.js_meaning.specs.Bodies.{Origin}
use Rattle.bp_log.specs.declared.item.Item.{Item}
use Rattle.bp_log.specs.declared.item.Item.TheVariants as item
use Rattle.bp_log.specs.declared.limits.TheConstants.{MOST_WAITING}
use Rattle.bp_log.specs.declared.record.Record.{Record}
use Rattle.bp_log.specs.declared.record.Record.TheVariants.{In, Bad, Eof}
use Rattle.bp_log.specs.declared.trace.Line.{Line}
use Rattle.bp_log.specs.declared.verdict.Verdict.{Verdict}
use Rattle.bp_run.specs.Bodies as run
use Rattle.bp_run.specs.Bodies.{Code}
use Rattle.bp_run.specs.Configuration.{Configuration}
use Rattle.bp_run.specs.Settling.{Body, Entry, at_rest}
use Rattle.bp_run.specs.Story.{after_record, may_come, has_room}
use Rattle.bp_steps.specs.declared.step.CoreStep.{CoreStep}
use Rattle.bp_steps.specs.declared.step.CoreStep.TheVariants.{Absorb, Pick, Slice, Seal}
use Rattle.bp_steps.specs.Merging.{record_by}
use Rattle.bp_steps.specs.Steps.{Moment, Nodes, pair_at, bodies, lent_bodies, is_lent, is_resting, picked, absorbed, sealed, slice_of, after_step}
use Rattle.bp_thread.specs.declared.job.Job.{Job}
use Rattle.bp_thread.specs.Jobs.{plain_job}
use Rattle.bp_code.specs.Nodes.{nodes_of}
use Rattle.bp_floor.specs.declared.phase.Phase.{Phase}
use Rattle.bp_floor.specs.declared.phase.Phase.TheVariants.{Ready, Lent, Rest, Over}
use Rattle.bp_floor.specs.Floors.{phase_at}
use Rattle.bp_arbiter.specs.Arbiters.{PlainArbiter, code_in, options_in, stand_in, is_lent as lent_phase}
use Rattle.bp_arbiter.specs.Absorb.{is_failed, fits}
use Rattle.bp_core.specs.Moments.{HasBegun, AreBegun, IsAt, lent_at_once, step_on}
use Rattle.bp_core.specs.Cores.{is_rest, takes, has_outcome, is_open, is_legal, AreDone}
use Rattle.bp_core.proofs.Leads.{reading_is, queue_is}

-- ---- phases

resting_with : (v : Option Verdict) (ns : List (Entry Origin)) → is_rest (lent_at_once (phase_at v ns)) ≡ ((elim v [ None ↦ elim ns [ [] ↦ true | n ∷ more ↦ false ] | Some w ↦ true ]) && is_none v)
resting_with None [] = refl
resting_with None (n ∷ ns) = refl
resting_with (Some v) ns = refl

lent_with : (v : Option Verdict) (ns : List (Entry Origin)) → lent_phase (lent_at_once (phase_at v ns)) ≡ not (elim v [ None ↦ elim ns [ [] ↦ true | n ∷ more ↦ false ] | Some w ↦ true ])
lent_with None [] = refl
lent_with None (n ∷ ns) = refl
lent_with (Some v) ns = refl

pub rest_phase_is : (f : Phase) → is_rest f ≡ true → f ≡ Rest
rest_phase_is Ready h = absurd (cc)
rest_phase_is Lent h = absurd (cc)
rest_phase_is Rest h = refl
rest_phase_is Over h = absurd (cc)

pub lent_phase_is : (f : Phase) → lent_phase f ≡ true → f ≡ Lent
lent_phase_is Ready h = absurd (cc)
lent_phase_is Lent h = refl
lent_phase_is Rest h = absurd (cc)
lent_phase_is Over h = absurd (cc)

pub not_failed : (b : Bool) → not b ≡ true → b ≡ false
not_failed true h = absurd (cc)
not_failed false h = refl

-- ---- jobs

none_is : (base : Ground) (budget : ℕ) (j : Job) (n : Option ℕ) → HasBegun base budget j n → is_none n ≡ has_outcome j
none_is base budget j None h = sym h
none_is base budget j (Some n) h = sym (ap is_some h.0)

all_none_is : (base : Ground) (budget : ℕ) (bs : List (Body Origin)) (js : List Job) (ns : List (Option ℕ)) → AreBegun base budget bs js ns → list_all is_none ns ≡ list_all has_outcome js
all_none_is base budget [] [] [] h = refl
all_none_is base budget [] [] (n ∷ ns) h = absurd h
all_none_is base budget [] (j ∷ js) ns h = absurd h
all_none_is base budget (b ∷ bs) [] ns h = absurd h
all_none_is base budget (b ∷ bs) (j ∷ js) [] h = absurd h
all_none_is base budget (b ∷ bs) (j ∷ js) (n ∷ ns) h =
    ap (λ (x : Bool). x && list_all is_none ns) (none_is base budget j n (h.0).begun) ∙ ap (λ (x : Bool). has_outcome j && x) (all_none_is base budget bs js ns h.1)

pub done_all : (js : List Job) → list_all has_outcome js ≡ true → AreDone js
done_all [] h = tt
done_all (j ∷ js) h = let p = and_parts (has_outcome j) (list_all has_outcome js) h in (p.0, done_all js p.1)

closed_here : (base : Ground) (budget : ℕ) (nodes : Nodes Origin) (k : ℕ) (b : Body Origin) (j : Job) (n : Option ℕ) → HasBegun base budget j n → not (has_outcome j) ≡ false → slice_of nodes k (Some b) (Some n) ≡ None
closed_here base budget nodes k b j None h e = refl
closed_here base budget nodes k b j (Some n) h e = absurd (let z : not (is_some (plain_job j).outcome) ≡ true = ap (λ o. not (is_some o)) h.0 in let y : true ≡ false = sym z ∙ e in cc)

closed_at : (base : Ground) (budget : ℕ) (nodes : Nodes Origin) (k : ℕ) (bs : List (Body Origin)) (js : List Job) (ns : List (Option ℕ)) (i : ℕ) → AreBegun base budget bs js ns → is_open (slice_get js i) ≡ false →
    slice_of nodes k (slice_get bs i) (slice_get ns i) ≡ None
closed_at base budget nodes k [] [] [] i h e = refl
closed_at base budget nodes k [] [] (n ∷ ns) i h e = absurd h
closed_at base budget nodes k [] (j ∷ js) ns i h e = absurd h
closed_at base budget nodes k (b ∷ bs) [] ns i h e = absurd h
closed_at base budget nodes k (b ∷ bs) (j ∷ js) [] i h e = absurd h
closed_at base budget nodes k (b ∷ bs) (j ∷ js) (n ∷ ns) zero h e = closed_here base budget nodes k b j n (h.0).begun e
closed_at base budget nodes k (b ∷ bs) (j ∷ js) (n ∷ ns) (suc i) h e = closed_at base budget nodes k bs js ns i h.1 e

no_outcome : (o : Option (run.Outcome PlainSet)) → not (is_some o) ≡ true → o ≡ None
no_outcome None k = refl
no_outcome (Some y) k = absurd (cc)

pub open_is : (js : List Job) (i : ℕ) (o : Option Job) → slice_get js i ≡ o → is_open o ≡ true → (j : Job) → slice_get js i ≡ Some j → (plain_job j).outcome ≡ None
open_is js i None e h j g = absurd (cc)
open_is js i (Some x) e h j g =
    let same : x ≡ j = (let z : Some x ≡ Some j = sym e ∙ g in cc) in
    no_outcome (plain_job j).outcome (ap (λ (y : Job). not (has_outcome y)) (sym same) ∙ h)

pub open_there : (js : List Job) (i : ℕ) → is_open (slice_get js i) ≡ true → i < length js
open_there [] i h = absurd (cc)
open_there (j ∷ js) zero h = omega arith
open_there (j ∷ js) (suc i) h = let l = open_there js i h in omega (arith, l)

-- ---- what a legal step needs

pub pick_needs : (a : PlainArbiter) (jobs : List Job) (s : CoreStep) → is_legal a jobs s ≡ true → s ≡ Pick → a.phase ≡ Rest
pick_needs a jobs s h e = rest_phase_is a.phase (sym (ap (is_legal a jobs) e) ∙ h)

pub seal_needs : (a : PlainArbiter) (jobs : List Job) (s : CoreStep) → is_legal a jobs s ≡ true → s ≡ Seal → (a.phase ≡ Lent) × AreDone jobs
seal_needs a jobs s h e =
    let p = and_parts (lent_phase a.phase) (list_all has_outcome jobs) (sym (ap (is_legal a jobs) e) ∙ h) in
    (lent_phase_is a.phase p.0, done_all jobs p.1)

-- this many nodes of a job that goes on
pub record SliceNeeds (a : PlainArbiter) (jobs : List Job) (i n : ℕ) : Type 0 where
  pub lent : a.phase ≡ Lent
  pub some : nat_lt 0 n ≡ true
  pub there : i < length jobs
  pub open_still : (j : Job) → slice_get jobs i ≡ Some j → (plain_job j).outcome ≡ None

pub slice_needs : (a : PlainArbiter) (jobs : List Job) (s : CoreStep) (i n : ℕ) → is_legal a jobs s ≡ true → s ≡ Slice i n → SliceNeeds a jobs i n
slice_needs a jobs s i n h e =
    let p = and_parts (lent_phase a.phase && nat_lt 0 n) (is_open (slice_get jobs i)) (sym (ap (is_legal a jobs) e) ∙ h) in
    let q = and_parts (lent_phase a.phase) (nat_lt 0 n) p.0 in
    record { lent = lent_phase_is a.phase q.0; some = q.1; there = open_there jobs i p.1; open_still = open_is jobs i (slice_get jobs i) refl p.1 }

pub record AbsorbNeeds (a : PlainArbiter) (j : ℕ) (x : Item) : Type 0 where
  pub rest : a.phase ≡ Rest
  pub read : list_any (nat_eq j) a.reading ≡ true
  pub sound : is_failed x ≡ false

pub absorb_needs : (a : PlainArbiter) (jobs : List Job) (s : CoreStep) (j : ℕ) (x : Item) → is_legal a jobs s ≡ true → s ≡ Absorb j x → AbsorbNeeds a j x
absorb_needs a jobs s j x h e =
    let p = and_parts (is_rest a.phase) (takes a j x) (sym (ap (is_legal a jobs) e) ∙ h) in
    let q = and_parts (not (is_failed x) && list_any (nat_eq j) a.reading) (fits (stand_in a) x) p.1 in
    let r = and_parts (not (is_failed x)) (list_any (nat_eq j) a.reading) q.0 in
    record { rest = rest_phase_is a.phase p.0; read = r.1; sound = not_failed (is_failed x) r.0 }

-- ---- steps that are not legal

and_true : (x : Bool) → (x && true) ≡ false → x ≡ false
and_true true h = absurd (cc)
and_true false h = refl

module _ (a : PlainArbiter) (jobs : List Job) (taken : List Line) (m : Moment Origin) (h : IsAt a jobs taken m) where
  abbrev l : Code Origin PlainSet
  l = code_in a

  resting_is : is_rest a.phase ≡ is_resting m
  resting_is = ap is_rest h.phase ∙ resting_with m.told.stand.verdict m.entries

  lent_is : lent_phase a.phase ≡ is_lent m
  lent_is = ap lent_phase h.phase ∙ lent_with m.told.stand.verdict m.entries

  comes_with : (j : ℕ) (v : Option Verdict) → m.told.stand.verdict ≡ v → is_none v ≡ true → may_come m.told j ≡ list_any (nat_eq j) a.reading
  comes_with j None e k = ap (λ (o : Option Verdict). not (elim o [ None ↦ false | Some v ↦ true ]) && list_any (nat_eq j) m.told.reading) e ∙ ap (λ (xs : List ℕ). list_any (nat_eq j) xs) (reading_is a jobs taken m h)
  comes_with j (Some v) e k = absurd (cc)

  room_is : has_room m.told.stand ≡ has_room (stand_in a)
  room_is = ap (λ (q : List PlainEvent). nat_lt (length q) MOST_WAITING) (queue_is a jobs taken m h)

  after_in_not : (j : ℕ) (e : PlainEvent) → (may_come m.told j && has_room m.told.stand) ≡ false → after_record l (options_in a) m.told (In j e) ≡ None
  unfolding after_record
  after_in_not j e k = rw k refl

  after_bad_not : (j n : ℕ) → may_come m.told j ≡ false → after_record l (options_in a) m.told (Bad j n) ≡ None
  unfolding after_record
  after_bad_not j n k = rw k refl

  after_eof_not : (j : ℕ) → may_come m.told j ≡ false → after_record l (options_in a) m.told (Eof j) ≡ None
  unfolding after_record
  after_eof_not j k = rw k refl

  absorbed_not : (r : Record) → after_record l (options_in a) m.told r ≡ None → absorbed l (options_in a) m r ≡ None
  absorbed_not r k = ap (λ (y : Option (Configuration Origin)). option_map (λ c. record m { told = c; records = m.records ++ r ∷ [] }) y) k

  not_taken : (j : ℕ) (x : Item) → is_none m.told.stand.verdict ≡ true → takes a j x ≡ false → option_and_then (absorbed l (options_in a) m) (record_by j x) ≡ None
  not_taken j (item.Offered e) v k =
      absorbed_not (In j e)
      (after_in_not j e (ap (λ (b : Bool). b && has_room m.told.stand) (comes_with j m.told.stand.verdict refl v) ∙ ap (λ (b : Bool). list_any (nat_eq j) a.reading && b) room_is ∙ k))
  not_taken j (item.Bad n) v k = absorbed_not (Bad j n) (after_bad_not j n (comes_with j m.told.stand.verdict refl v ∙ and_true (list_any (nat_eq j) a.reading) k))
  not_taken j item.Failed v k = refl
  not_taken j item.End v k = absorbed_not (Eof j) (after_eof_not j (comes_with j m.told.stand.verdict refl v ∙ and_true (list_any (nat_eq j) a.reading) k))

  absorb_not : (j : ℕ) (x : Item) (b : Bool) → is_resting m ≡ b → (b && takes a j x) ≡ false → (if b then option_and_then (absorbed l (options_in a) m) (record_by j x) else None) ≡ None
  absorb_not j x false e k = refl
  absorb_not j x true e k = not_taken j x (and_parts (at_rest (pair_at m)) (is_none m.told.stand.verdict) e).1 k

  slice_not : (i n : ℕ) (b : Bool) → (is_lent m && nat_lt 0 n) ≡ b → (b && is_open (slice_get jobs i)) ≡ false →
      (if b then option_map (λ k. record m { lent = Rattle.bp_run.specs.Configuration.change (λ y. k) i m.lent })
      (slice_of (nodes_of a.floor.base.program (options_in a)) n (slice_get (bodies l (pair_at m)) i) (slice_get m.lent i)) else None) ≡ None
  slice_not i n false e k = refl
  slice_not i n true e k =
      let lent = (and_parts (is_lent m) (nat_lt 0 n) e).0 in
      let these : lent_bodies l (pair_at m) ≡ bodies l (pair_at m) = ap (λ (t : Bool). if t then [] else bodies l (pair_at m)) (not_failed (at_rest (pair_at m)) lent) in
      ap (λ (y : Option (Option ℕ)). option_map (λ k. record m { lent = Rattle.bp_run.specs.Configuration.change (λ z. k) i m.lent }) y)
      (closed_at a.floor.base (options_in a).budget (nodes_of a.floor.base.program (options_in a)) n (bodies l (pair_at m)) jobs m.lent i
      (subst (λ (bs : List (Body Origin)). AreBegun a.floor.base (options_in a).budget bs jobs m.lent) these h.lent) k)

  -- a step that is not legal leads nowhere
  pub refused : (s : CoreStep) → is_legal a jobs s ≡ false → step_on a m s ≡ None
  unfolding after_step
  refused (Absorb j x) e = absorb_not j x (is_resting m) refl (ap (λ (b : Bool). b && takes a j x) (sym resting_is) ∙ e)
  refused Pick e = ap (λ (b : Bool). if b then Some (picked l m (Rattle.bp_run.specs.Story.next l (options_in a) m.told)) else None) (sym resting_is ∙ e)
  refused (Slice i n) e = slice_not i n (is_lent m && nat_lt 0 n) refl (ap (λ (b : Bool). (b && nat_lt 0 n) && is_open (slice_get jobs i)) (sym lent_is) ∙ e)
  refused Seal e =
      ap (λ (b : Bool). if b then Some (sealed l m (Rattle.bp_run.specs.Settling.turn l (pair_at m))) else None)
      (ap (λ (b : Bool). b && list_all is_none m.lent) (sym lent_is)
      ∙ ap (λ (b : Bool). lent_phase a.phase && b) (all_none_is a.floor.base (options_in a).budget (lent_bodies l (pair_at m)) jobs m.lent h.lent) ∙ e)
