-- Of the jobs that are lent no node has begun.
use Rattle.std.proofs.Common.{◌≡◌, ℕ, zero, suc, Bool, true, false, List, [], ◌∷◌, ◌++◌, map, refl, sym, ap, ◌∙◌, subst, Option, Some, None, slice_get, if◌then◌else◌}
use Rattle.std.specs.List.{AllZip, filter_map, cons_option}
use Rattle.js_value.specs.Value.{PlainSet}
use Rattle.js_meaning.specs.State.{Ground}
use Rattle.js_meaning.specs.Bodies.{Origin, the_top}
use Rattle.bp_log.specs.Options.{PlainOptions}
use Rattle.bp_log.specs.declared.trace.Line.{Line}
use Rattle.bp_log.specs.declared.verdict.Verdict.{Verdict}
use Rattle.bp_run.specs.Bodies.{Code}
use Rattle.bp_run.specs.Configuration.{Stand, Thread}
use Rattle.bp_run.specs.Settling.{Body, Entry, Pair, own_body, body_of, at_rest, before}
use Rattle.bp_run.specs.Settling.Entry.{The_top, Runs, Stops}
use Rattle.bp_run.specs.Numbers.{number_of}
use Rattle.bp_steps.specs.Steps.{Moment, pair_at, bodies, lent_bodies, fresh, lends, settled}
use Rattle.bp_thread.specs.declared.job.Job.{Job}
use Rattle.bp_thread.specs.Jobs.{plain_job, StandsAt}
use Rattle.bp_thread.specs.Carried.{Carries, HaveDistinctNumbers}
use Rattle.bp_code.specs.Code.{ground_for, sealed_code_of as code_of}
use Rattle.bp_floor.specs.declared.phase.Phase.TheVariants.{Ready, Lent}
use Rattle.bp_floor.specs.Forgetting.{forget, forgotten, IsGoing, AreGoing}
use Rattle.bp_floor.specs.Loans.{JobFor, IsLent, AreLent, standing}
use Rattle.bp_floor.specs.Floors.{IsPhased, phase_at, phase_of}
use Rattle.bp_floor.proofs.Lists.{get_map}
use Rattle.bp_floor.proofs.Forgetting.{forget_ended_at}
use Rattle.bp_arbiter.specs.Arbiters.{PlainArbiter, StandsFor, Recounts, code_in, options_in}
use Rattle.bp_arbiter.specs.Lend.{CanRun, AllCanRun, AreOut}
use Rattle.bp_core.specs.Moments.{IsBegun, AreBegun, lent_at_once, IsReadyAt, IsAt}
use Rattle.bp_arbiter.proofs.PickLemmas.{unfilled}
use Rattle.bp_arbiter.proofs.Told.{same_code, same_story}

-- ---- who goes on

going_back_at : (ts : List (Thread Origin)) (n : Entry Origin) → IsGoing (map (forget the_top) ts) n → IsGoing ts n
going_back_at ts The_top h = tt
going_back_at ts (Runs i) h = λ t e. sym (forget_ended_at the_top t.ended t refl) ∙ h (forget the_top t) (get_map (forget the_top) ts i t e)
going_back_at ts (Stops i b) h = tt

going_back : (ts : List (Thread Origin)) (ns : List (Entry Origin)) → AreGoing (map (forget the_top) ts) ns → AreGoing ts ns
going_back ts [] h = tt
going_back ts (n ∷ ns) h = (going_back_at ts n h.0, going_back ts ns h.1)

going_body : (ts : List (Thread Origin)) (i : ℕ) → ((t : Thread Origin) → slice_get ts i ≡ Some t → t.ended ≡ false) → own_body (slice_get (map (forget the_top) ts) i) ≡ own_body (slice_get ts i)
going_body [] i h = refl
going_body (t ∷ ts) zero h = let e = h t refl in rw e refl
going_body (t ∷ ts) (suc i) h = going_body ts i h

-- ---- jobs that were lent

module _ (base : Ground) (o : PlainOptions) where
  begun_one : (n : ℕ) (b : Body Origin) (j : Job) → IsLent base.program o n b j → CanRun base o.budget j → IsBegun base o.budget b j (Some 0)
  begun_one n b j l r =
      let g : base ≡ ground_for base.program o.budget b.origin = r.ground ∙ ap (λ (x : Origin). ground_for base.program o.budget x) (l.job).origin_is in
      let f = l.fresh in
      record {
        origin = (l.job).origin_is;
        replies = (l.job).replies_are;
        of_program = (l.job).of_program;
        ground = g;
        whole = r.whole;
        begun = (l.outcome, f.before ++ (plain_job j).effects, subst (λ (x : Ground). StandsAt x o.budget 0 (f.before ++ (plain_job j).effects) j) (sym g) f.stands);
      }

  begun_at : (n : ℕ) (b : Option (Body Origin)) (js : List Job) (rest : List Job → Type 0) (bs : List (Body Origin)) → JobFor (IsLent base.program o) n b js rest → AllCanRun base o.budget js →
      ((ks : List Job) → rest ks → AllCanRun base o.budget ks → AreBegun base o.budget bs ks (fresh bs)) → AreBegun base o.budget (cons_option b bs) js (fresh (cons_option b bs))
  begun_at n None js rest bs h r k = k js h r
  begun_at n (Some b) [] rest bs h r k = absurd h
  begun_at n (Some b) (j ∷ js) rest bs h r k = (begun_one n b j h.0 r.0, k js h.1 r.1)

  module _ (s : Stand Origin) where
    same_body : (n : Entry Origin) → IsGoing s.threads n → body_of (code_of base.program o) (standing (map (forget the_top) s.threads)) n ≡ body_of (code_of base.program o) s n
    same_body The_top h = refl
    same_body (Runs i) h = going_body s.threads i h
    same_body (Stops i b) h = refl

    -- lent jobs are those of the bodies, and of none of them a node has begun
    pub lent_begun : (ns : List (Entry Origin)) (js : List Job) → AreGoing s.threads ns → AreLent base.program o (standing (map (forget the_top) s.threads)) ns js → AllCanRun base o.budget js →
        AreBegun base o.budget (filter_map (body_of (code_of base.program o) s) ns) js (fresh (filter_map (body_of (code_of base.program o) s) ns))
    lent_begun [] js g h r = subst (λ (ks : List Job). AreBegun base o.budget [] ks []) (sym h) tt
    lent_begun (n ∷ ns) js g h r =
        let rest = AreLent base.program o (standing (map (forget the_top) s.threads)) ns in
        begun_at (number_of n) (body_of (code_of base.program o) s n) js rest (filter_map (body_of (code_of base.program o) s) ns)
        (subst (λ (b : Option (Body Origin)). JobFor (IsLent base.program o) (number_of n) b js rest) (same_body n g.0) h) r
        (λ ks k q. lent_begun ns ks g.1 k q)

-- ---- a core that lends

pub carries_self : (base : Ground) (budget : ℕ) (j : Job) → Carries base budget j j
carries_self base budget j =
    record { same = record { number = refl; name = refl; origin = refl; replies = refl }; stands = λ h. h; whole = λ h. h; of_program = λ h. h }

pub all_carried_self : (base : Ground) (budget : ℕ) (js : List Job) → AllZip (Carries base budget) js js
all_carried_self base budget [] = tt
all_carried_self base budget (j ∷ js) = (carries_self base budget j, all_carried_self base budget js)

ready_at : (v : Option Verdict) (ns : List (Entry Origin)) → phase_at v ns ≡ Ready → (elim v [ None ↦ elim ns [ [] ↦ true | n ∷ more ↦ false ] | Some w ↦ true ]) ≡ false
ready_at None [] h = absurd (cc)
ready_at None (n ∷ ns) h = refl
ready_at (Some v) ns h = absurd (cc)

-- where a wave is to be run, the pair is not at rest
pub busy_ready : (p : Pair Origin) → phase_of p ≡ Ready → at_rest p ≡ false
busy_ready p h = ready_at p.stand.verdict p.entries h

pub lent_at : (a b : PlainArbiter) (jobs : List Job) (taken : List Line) (m : Moment Origin) → IsReadyAt a taken m → IsPhased a.floor → a.phase ≡ Ready → AreOut b jobs → HaveDistinctNumbers jobs →
    ((t : List Line) (p : Pair Origin) → StandsFor a [] t p → StandsFor b jobs t p) → b.phase ≡ Lent → b.records ≡ a.records → b.floor.base ≡ a.floor.base → options_in b ≡ options_in a → IsAt b jobs taken m
lent_at a b jobs taken m h k i out distinct stands f rs base options =
    let code : code_in b ≡ code_in a = same_code a.floor.base.program b.floor.base.program (options_in a) (options_in b) (ap (λ (x : Ground). x.program) base) options in
    let before_lending : forgotten the_top (pair_at m) ≡ before taken a.floor.pair = (h.stands).floor ∙ ap (λ (q : Pair Origin). before taken q) (unfilled a.floor.pair) in
    let threads : a.floor.pair.stand.threads ≡ map (forget the_top) m.told.stand.threads = sym (ap (λ (q : Pair Origin). q.stand.threads) before_lending) in
    let entries : a.floor.pair.entries ≡ m.entries = sym (ap (λ (q : Pair Origin). q.entries) before_lending) in
    let going : AreGoing m.told.stand.threads m.entries = going_back m.told.stand.threads m.entries
    (subst (λ (ns : List (Entry Origin)). AreGoing (map (forget the_top) m.told.stand.threads) ns) entries (subst (λ (ts : List (Thread Origin)). AreGoing ts a.floor.pair.entries) threads k.going)) in
    let s = stands taken (pair_at m) h.stands in
    let lent : AreLent b.floor.base.program (options_in b) (standing (map (forget the_top) m.told.stand.threads)) m.entries jobs =
    subst (λ (ns : List (Entry Origin)). AreLent b.floor.base.program (options_in b) (standing (map (forget the_top) m.told.stand.threads)) ns jobs) (sym (ap (λ (q : Pair Origin). q.entries) s.floor))
    (subst (λ (ts : List (Thread Origin)). AreLent b.floor.base.program (options_in b) (standing ts) b.floor.pair.entries jobs) (sym (ap (λ (q : Pair Origin). q.stand.threads) s.floor)) out.lent) in
    let busy : at_rest (pair_at m) ≡ false = busy_ready (pair_at m) (sym h.phase ∙ i) in
    let all = lent_begun b.floor.base (options_in b) m.told.stand m.entries jobs going lent out.can_run in
    let these : bodies (code_in b) (pair_at m) ≡ lent_bodies (code_in b) (pair_at m) = ap (λ (x : Bool). if x then [] else bodies (code_in b) (pair_at m)) (sym busy) in
    record {
      stands = s;
      records = rs ∙ h.records;
      told = subst (λ (l : Code Origin PlainSet). Recounts b (settled l m)) (sym code)
          (same_story a b (settled (code_in a) m) (ap (λ (x : Ground). x.program) base) options rs h.told);
      phase = f ∙ ap lent_at_once (sym i ∙ h.phase);
      lent = subst (λ (ns : List (Option ℕ)). AreBegun b.floor.base (options_in b).budget (lent_bodies (code_in b) (pair_at m)) jobs ns)
          (ap (λ (l : Code Origin PlainSet). lends l (pair_at m)) code ∙ sym h.lent)
          (subst (λ (bs : List (Body Origin)). AreBegun b.floor.base (options_in b).budget bs jobs (fresh bs)) these all);
      out = λ e. record { first = jobs; out = out; distinct = distinct; carried = all_carried_self b.floor.base (options_in b).budget jobs };
    }
