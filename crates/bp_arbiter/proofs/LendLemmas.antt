-- Jobs are lent, and come back carried to their outcomes.
use Rattle.std.proofs.Common.{◌≡◌, ◌<◌, ℕ, zero, suc, Bool, true, false, List, [], ◌∷◌, length, map, refl, sym, ap, ◌∙◌, subst, arith, Option, Some, None, slice_get, slice_index_or}
use Rattle.std.proofs.lemmas.Option.{slice_get-map}
use Rattle.js_data.specs.Event.{PlainEvent}
use Rattle.js_data.proofs.Shared.{mapped}
use Rattle.js_program.specs.PlainProgram.{PlainProgram}
use Rattle.js_meaning.specs.State.{Ground, effects_since}
use Rattle.js_meaning.specs.Bodies.{Origin, the_top, function, bare, ground_of, evaluation}
use Rattle.bp_log.specs.Options.{PlainOptions}
use Rattle.bp_log.specs.declared.trace.Line.{Line}
use Rattle.bp_run.specs.Configuration.{Stand, Thread, change}
use Rattle.bp_run.specs.Settling.{Body, Entry, Pair, before, body_of, own_body}
use Rattle.bp_run.specs.Settling.Entry.{The_top, Runs, Stops}
use Rattle.bp_run.specs.Numbers.{number_of}
use Rattle.bp_meaning.specs.After.{effect_of, outcome_of}
use Rattle.bp_thread.specs.declared.job.Job.{Job}
use Rattle.bp_thread.specs.Jobs.{PlainJob, plain_job, IsFresh, StandsFor as JobStands}
use Rattle.bp_thread.specs.Carried.{CarriedOut, AreCarriedOut}
use Rattle.bp_thread.proofs.Carrying.{carried_out, whole_stands, fresh_whole}
use Rattle.bp_code.specs.Code.{ground_for, sealed_code_of as code_of}
use Rattle.bp_floor.specs.Forgetting.{forget, AreGoing}
use Rattle.bp_floor.specs.Loans.{IsLent, IsDone, JobFor, AreLent, AreDone, fill, filled, filled_pair, standing}
use Rattle.bp_floor.specs.Returns.{ground_at, AreLater, RunsAlone}
use Rattle.bp_floor.specs.Floors as floors
use Rattle.bp_floor.specs.Floors.{PlainFloor, IsPhased, StandsFor as FloorStands}
use Rattle.bp_arbiter.specs.Arbiters.{PlainArbiter, StandsFor, options_in}
use Rattle.bp_arbiter.specs.Calls.{is_call, AllCall, HandlerCalls, HandlersCall, RunCalls}
use Rattle.bp_arbiter.specs.Lend.{CanRun, AllCanRun, AreOut, AreBack}
use Rattle.bp_floor.proofs.ReturnLemmas.{filled_length}

-- ---- the ground of what is to be run

call_ground : (program : PlainProgram) (budget : ℕ) (o : Origin) → is_call o ≡ true → ground_for program budget o ≡ ground_of program budget
call_ground program budget the_top h = absurd (cc)
call_ground program budget (function mode f args) h = refl

call_at : (ts : List (Thread Origin)) (i : ℕ) (t : Thread Origin) → AllCall ts → slice_get ts i ≡ Some t → is_call t.origin ≡ true
call_at [] i t c h = absurd (cc)
call_at (x ∷ ts) zero t c h = let f : x ≡ t = cc in ap (λ (u : Thread Origin). is_call u.origin) (sym f) ∙ c.0
call_at (x ∷ ts) (suc i) t c h = call_at ts i t c.1 h

still_ended : (b : Bool) (u : Thread Origin) → u.ended ≡ b → (forget the_top u).ended ≡ b
still_ended true u e = rw e refl
still_ended false u e = rw e refl

unforgotten : (b : Bool) (u t : Thread Origin) → u.ended ≡ b → forget the_top u ≡ t → t.ended ≡ false → is_call u.origin ≡ true → is_call t.origin ≡ true
unforgotten true u t e h n c = absurd (let f : (forget the_top u).ended ≡ true = still_ended true u e in let g : (forget the_top u).ended ≡ false = ap (λ (x : Thread Origin). x.ended) h ∙ n in cc)
unforgotten false u t e h n c = ap (λ (x : Thread Origin). is_call x.origin) (sym h) ∙ (rw e c)

-- a b-thread that goes on runs a call
going_call : (us : List (Thread Origin)) (i : ℕ) (t : Thread Origin) → AllCall us → slice_get (map (forget the_top) us) i ≡ Some t → t.ended ≡ false → is_call t.origin ≡ true
going_call us i t c h n =
    let w = mapped (forget the_top) (slice_get us i) t (sym (slice_get-map (forget the_top) us i) ∙ h) in
    unforgotten w.0.ended w.0 t refl w.2 n (call_at us i w.0 c w.1)

-- the body of the entry stands on this ground
OnGround : Ground → PlainProgram → PlainOptions → List (Thread Origin) → Entry Origin → Type 0
OnGround base program o ts n = (b : Body Origin) → body_of (code_of program o) (standing ts) n ≡ Some b → base ≡ ground_for program o.budget b.origin

AllOnGround : Ground → PlainProgram → PlainOptions → List (Thread Origin) → List (Entry Origin) → Type 0
AllOnGround base program o ts [] = Unit {0}
AllOnGround base program o ts (n ∷ ns) = OnGround base program o ts n × AllOnGround base program o ts ns

own_ground : (base : Ground) (program : PlainProgram) (budget : ℕ) (x : Option (Thread Origin)) → ((t : Thread Origin) → x ≡ Some t → is_call t.origin ≡ true) → base ≡ ground_of program budget →
    (b : Body Origin) → own_body x ≡ Some b → base ≡ ground_for program budget b.origin
own_ground base program budget None c g b h = absurd (cc)
own_ground base program budget (Some t) c g b h =
    let f : record { origin = t.origin; replies = t.replies } ≡ b = cc in
    subst (λ (x : Body Origin). base ≡ ground_for program budget x.origin) f (g ∙ sym (call_ground program budget t.origin (c t refl)))

handler_ground : (base : Ground) (program : PlainProgram) (budget : ℕ) (x : Option (Body Origin)) → HandlerCalls x → base ≡ ground_of program budget → (b : Body Origin) → x ≡ Some b → base ≡ ground_for program budget b.origin
handler_ground base program budget None c g b h = absurd (cc)
handler_ground base program budget (Some d) c g b h =
    let f : d ≡ b = cc in
    subst (λ (x : Body Origin). base ≡ ground_for program budget x.origin) f (g ∙ sym (call_ground program budget d.origin c))

top_ground : (base : Ground) (program : PlainProgram) (budget : ℕ) (d b : Body Origin) → d.origin ≡ the_top → Some d ≡ Some b → base ≡ bare program → base ≡ ground_for program budget b.origin
top_ground base program budget d b e h g =
    let f : d ≡ b = cc in
    g ∙ ap (λ (x : Origin). ground_for program budget x) (sym e ∙ ap (λ (x : Body Origin). x.origin) f)

later_grounds : (base : Ground) (program : PlainProgram) (o : PlainOptions) (us : List (Thread Origin)) (ns : List (Entry Origin)) → AllCall us → HandlersCall ns → AreGoing (map (forget the_top) us) ns → AreLater ns →
    base ≡ ground_of program o.budget → AllOnGround base program o (map (forget the_top) us) ns
unfolding OnGround AllOnGround
later_grounds base program o us [] c h k a g = tt
later_grounds base program o us (The_top ∷ ns) c h k a g = absurd a
later_grounds base program o us (Runs i ∷ ns) c h k a g = (
  own_ground base program o.budget (slice_get (map (forget the_top) us) i) (λ t e. going_call us i t c e (k.0 t e)) g,
  later_grounds base program o us ns c h.1 k.1 a g,
)
later_grounds base program o us (Stops i b ∷ ns) c h k a g = (handler_ground base program o.budget b h.0 g, later_grounds base program o us ns c h.1 k.1 a g)

grounds : (base : Ground) (program : PlainProgram) (o : PlainOptions) (us : List (Thread Origin)) (ns : List (Entry Origin)) → AllCall us → HandlersCall ns → AreGoing (map (forget the_top) us) ns → RunsAlone ns →
    base ≡ ground_at program o.budget ns → AllOnGround base program o (map (forget the_top) us) ns
unfolding OnGround AllOnGround code_of
grounds base program o us [] c h k a g = tt
grounds base program o us (The_top ∷ ns) c h k a g =
    (λ b e. top_ground base program o.budget (record { origin = the_top; replies = [] }) b refl e g, subst (λ (ms : List (Entry Origin)). AllOnGround base program o (map (forget the_top) us) ms) (sym a) tt)
grounds base program o us (Runs i ∷ ns) c h k a g = (
  own_ground base program o.budget (slice_get (map (forget the_top) us) i) (λ t e. going_call us i t c e (k.0 t e)) g,
  later_grounds base program o us ns c h.1 k.1 a g,
)
grounds base program o us (Stops i b ∷ ns) c h k a g = (handler_ground base program o.budget b h.0 g, later_grounds base program o us ns c h.1 k.1 a g)

-- ---- what is lent can be run

module _ (base : Ground) (o : PlainOptions) where
  can_run : (n : ℕ) (b : Body Origin) (j : Job) → IsLent base.program o n b j → base ≡ ground_for base.program o.budget b.origin → CanRun base o.budget j
  can_run n b j l g =
      record {
        ground = g ∙ ap (λ (x : Origin). ground_for base.program o.budget x) (sym (l.job).origin_is);
        of_program = (l.job).of_program;
        effects = l.effects;
        outcome = l.outcome;
        whole = fresh_whole base o.budget j (subst (λ (x : Ground). IsFresh x o.budget j) (sym g) l.fresh);
      }

  run_at : (n : ℕ) (b : Option (Body Origin)) (js : List Job) (rest : List Job → Type 0) → JobFor (IsLent base.program o) n b js rest →
      ((c : Body Origin) → b ≡ Some c → base ≡ ground_for base.program o.budget c.origin) → ((ks : List Job) → rest ks → AllCanRun base o.budget ks) → AllCanRun base o.budget js
  run_at n None js rest h g r = r js h
  run_at n (Some b) [] rest h g r = absurd h
  run_at n (Some b) (j ∷ js) rest h g r = (can_run n b j h.0 (g b refl), r js h.1)

  all_can_run : (ts : List (Thread Origin)) (ns : List (Entry Origin)) (js : List Job) → AreLent base.program o (standing ts) ns js → AllOnGround base base.program o ts ns → AllCanRun base o.budget js
  unfolding OnGround AllOnGround
  all_can_run ts [] js h g = subst (λ (ks : List Job). AllCanRun base o.budget ks) (sym h) tt
  all_can_run ts (n ∷ ns) js h g =
      run_at (number_of n) (body_of (code_of base.program o) (standing ts) n) js (AreLent base.program o (standing ts) ns) h g.0 (λ ks r. all_can_run ts ns ks r g.1)

-- the jobs that a floor lends can be run, where it stands for a pair whose b-threads run calls
pub lent_can_run : (f : PlainFloor) (jobs : List Job) (taken : List Line) (p : Pair Origin) → IsPhased f → FloorStands f taken p → RunCalls p →
    AreLent f.base.program f.options (standing f.pair.stand.threads) f.pair.entries jobs → AllCanRun f.base f.options.budget jobs
lent_can_run f jobs taken p k h c l =
    let ts : map (forget the_top) p.stand.threads ≡ f.pair.stand.threads = ap (λ (x : Pair Origin). x.stand.threads) h in
    let ns : p.entries ≡ f.pair.entries = ap (λ (x : Pair Origin). x.entries) h in
    let handlers : HandlersCall f.pair.entries = subst HandlersCall ns c.handlers in
    let going : AreGoing (map (forget the_top) p.stand.threads) f.pair.entries = subst (λ (us : List (Thread Origin)). AreGoing us f.pair.entries) (sym ts) k.going in
    all_can_run f.base f.options f.pair.stand.threads f.pair.entries jobs l
    (subst (λ (us : List (Thread Origin)). AllOnGround f.base f.base.program f.options us f.pair.entries) ts
    (grounds f.base f.base.program f.options p.stand.threads f.pair.entries c.threads handlers going k.alone k.grounded))

-- ---- what comes back

AllCarried : Ground → ℕ → List Job → List Job → Type 0
AllCarried base budget [] [] = Unit {0}
AllCarried base budget [] (x ∷ xs) = ⊥
AllCarried base budget (e ∷ es) [] = ⊥
AllCarried base budget (e ∷ es) (x ∷ xs) = CarriedOut base budget e x × AllCarried base budget es xs

one_by_one : (base : Ground) (budget : ℕ) (es xs : List Job) → length xs ≡ length es → ((k : ℕ) (d e : Job) → k < length es → CarriedOut base budget (slice_index_or es k d) (slice_index_or xs k e)) →
    AllCarried base budget es xs
unfolding AllCarried
one_by_one base budget [] [] n h = tt
one_by_one base budget [] (x ∷ xs) n h = absurd (omega arith)
one_by_one base budget (e ∷ es) [] n h = absurd (omega arith)
one_by_one base budget (e ∷ es) (x ∷ xs) n h = (h 0 e x (omega arith), one_by_one base budget es xs (omega arith) (λ k d f l. h (suc k) d f (omega arith)))

all_carried : (base : Ground) (budget : ℕ) (es xs : List Job) → AreCarriedOut base budget es xs → AllCarried base budget es xs
all_carried base budget es xs c = one_by_one base budget es xs c.as_many c.each

filled_alike : (base : Ground) (budget : ℕ) (i : ℕ) (e x : Job) (ts : List (Thread Origin)) → CarriedOut base budget e x → change (fill (plain_job x)) i ts ≡ change (fill (plain_job e)) i ts
filled_alike base budget i e x ts c =
    let fills : Origin → List PlainEvent → List (Thread Origin) = λ o rs. change (λ t. record t { origin = o; replies = rs }) i ts in
    ap (λ (o : Origin). fills o (plain_job x).replies) ((c.carries).same).origin ∙ ap (λ (rs : List PlainEvent). fills (plain_job e).origin rs) ((c.carries).same).replies

filled_carried : (base : Ground) (budget : ℕ) (ns : List (Entry Origin)) (es xs : List Job) (ts : List (Thread Origin)) → AllCarried base budget es xs → filled ns xs ts ≡ filled ns es ts
unfolding AllCarried
filled_carried base budget [] es xs ts c = refl
filled_carried base budget (n ∷ ns) [] [] ts c = refl
filled_carried base budget (n ∷ ns) [] (x ∷ xs) ts c = absurd c
filled_carried base budget (n ∷ ns) (e ∷ es) [] ts c = absurd c
filled_carried base budget (The_top ∷ ns) (e ∷ es) (x ∷ xs) ts c = filled_carried base budget ns es xs ts c.1
filled_carried base budget (Runs i ∷ ns) (e ∷ es) (x ∷ xs) ts c =
    ap (λ (us : List (Thread Origin)). filled ns xs us) (filled_alike base budget i e x ts c.0) ∙ filled_carried base budget ns es xs (change (fill (plain_job e)) i ts) c.1
filled_carried base budget (Stops i None ∷ ns) (e ∷ es) (x ∷ xs) ts c = filled_carried base budget ns (e ∷ es) (x ∷ xs) ts c
filled_carried base budget (Stops i (Some b) ∷ ns) (e ∷ es) (x ∷ xs) ts c = filled_carried base budget ns es xs ts c.1

-- the pair is the same with the jobs that were carried on
pub filled_same : (base : Ground) (budget : ℕ) (p : Pair Origin) (es xs : List Job) → AreCarriedOut base budget es xs → filled_pair xs p ≡ filled_pair es p
filled_same base budget p es xs c =
    ap (λ (ts : List (Thread Origin)). record p { stand = record p.stand { threads = ts } }) (filled_carried base budget p.entries es xs p.stand.threads (all_carried base budget es xs c))

-- a slice leaves the pair that the arbiter stands for
pub carried_stands : (a : PlainArbiter) (es xs : List Job) (taken : List Line) (p : Pair Origin) → AreCarriedOut a.floor.base (options_in a).budget es xs → StandsFor a es taken p → StandsFor a xs taken p
carried_stands a es xs taken p c s =
    record {
      whole = s.whole;
      told = s.told;
      story = s.story;
      settles = s.settles;
      reading = s.reading;
      bad = s.bad;
      drawn = s.drawn;
      floor = s.floor ∙ ap (λ (q : Pair Origin). before taken q) (sym (filled_same a.floor.base (options_in a).budget a.floor.pair es xs c));
      calls = s.calls;
    }

module _ (base : Ground) (o : PlainOptions) where
  is_done : (n : ℕ) (b : Body Origin) (e x : Job) → IsLent base.program o n b e → CanRun base o.budget e → CarriedOut base o.budget e x → IsDone base.program o n b x
  unfolding code_of
  is_done n b e x l r c =
      let same = (c.carries).same in
      let done = carried_out base o.budget e x r.whole c in
      let g : ground_for base.program o.budget b.origin ≡ base = ap (λ (y : Origin). ground_for base.program o.budget y) (sym (l.job).origin_is) ∙ sym r.ground in
      let body : evaluation base o.budget (plain_job e).origin (plain_job e).replies ≡ evaluation (ground_for base.program o.budget b.origin) o.budget b.origin b.replies =
      ap (λ (y : Ground). evaluation y o.budget (plain_job e).origin (plain_job e).replies) (sym g)
      ∙ ap (λ (y : Origin). evaluation (ground_for base.program o.budget b.origin) o.budget y (plain_job e).replies) (l.job).origin_is
      ∙ ap (λ (y : List PlainEvent). evaluation (ground_for base.program o.budget b.origin) o.budget b.origin y) (l.job).replies_are in
      record {
        carried = record {
          job = record {
            number_is = same.number ∙ (l.job).number_is;
            origin_is = same.origin ∙ (l.job).origin_is;
            replies_are = same.replies ∙ (l.job).replies_are;
            of_program = (c.carries).of_program (l.job).of_program;
          };
          outcome = ap (λ (y : PlainJob). y.outcome) done ∙ ap (λ y. Some (outcome_of y)) body;
          stands = subst (λ (y : Ground). JobStands y o.budget x) (sym g) ((c.carries).stands (whole_stands base o.budget e r.whole));
        };
        effects = ap (λ (y : PlainJob). map effect_of y.effects) done ∙ ap (λ y. map effect_of (effects_since y)) body;
      }

  done_at : (n : ℕ) (b : Option (Body Origin)) (es xs : List Job) (lent done : List Job → Type 0) → JobFor (IsLent base.program o) n b es lent → AllCanRun base o.budget es → AllCarried base o.budget es xs →
      ((fs ys : List Job) → lent fs → AllCanRun base o.budget fs → AllCarried base o.budget fs ys → done ys) → JobFor (IsDone base.program o) n b xs done
  unfolding AllCarried
  done_at n None es xs lent done h r c k = k es xs h r c
  done_at n (Some b) [] xs lent done h r c k = absurd h
  done_at n (Some b) (e ∷ es) [] lent done h r c k = absurd c
  done_at n (Some b) (e ∷ es) (x ∷ xs) lent done h r c k = (is_done n b e x h.0 r.0 c.0, k es xs h.1 r.1 c.1)

  none_carried : (es xs : List Job) → es ≡ [] → AllCarried base o.budget es xs → xs ≡ []
  unfolding AllCarried
  none_carried [] [] h c = refl
  none_carried [] (x ∷ xs) h c = absurd c
  none_carried (e ∷ es) xs h c = absurd (cc)

  all_done : (s : Stand Origin) (ns : List (Entry Origin)) (es xs : List Job) → AreLent base.program o s ns es → AllCanRun base o.budget es → AllCarried base o.budget es xs → AreDone base.program o s ns xs
  all_done s [] es xs h r c = none_carried es xs h c
  all_done s (n ∷ ns) es xs h r c =
      done_at (number_of n) (body_of (code_of base.program o) s n) es xs (AreLent base.program o s ns) (AreDone base.program o s ns) h r c (λ fs ys l q d. all_done s ns fs ys l q d)

-- what comes back to the arbiter is what its floor asks back
pub back_done : (a : PlainArbiter) (jobs : List Job) → AreBack a jobs → floors.AreBack a.floor jobs
back_done a jobs b =
    let f = a.floor in
    let lent = (b.out).lent in
    let c = all_carried f.base f.options.budget b.lent jobs b.carried in
    subst (λ (ts : List (Thread Origin)). AreDone f.base.program f.options (standing ts) f.pair.entries jobs) (sym (filled_carried f.base f.options.budget f.pair.entries b.lent jobs f.pair.stand.threads c))
    (all_done f.base f.options (standing (filled_pair b.lent f.pair).stand.threads) f.pair.entries b.lent jobs lent (b.out).can_run c)

-- what a floor lends is out
pub lent_out : (a : PlainArbiter) (g : PlainFloor) (jobs : List Job) (taken : List Line) (p : Pair Origin) → IsPhased a.floor → FloorStands a.floor taken p → RunCalls p →
    AreLent a.floor.base.program a.floor.options (standing a.floor.pair.stand.threads) a.floor.pair.entries jobs → filled_pair jobs g.pair ≡ a.floor.pair → g.base ≡ a.floor.base → g.options ≡ a.floor.options →
    (b : PlainArbiter) → b.floor ≡ g → AreOut b jobs
lent_out a g jobs taken p k h c l e base options b same =
    let f = a.floor in
    let can = lent_can_run f jobs taken p k h c l in
    subst (λ (x : PlainFloor). AreOut (record b { floor = x }) jobs) (sym same)
    (record {
      can_run = subst (λ (x : Ground). AllCanRun x g.options.budget jobs) (sym base) (subst (λ (x : PlainOptions). AllCanRun f.base x.budget jobs) (sym options) can);
      lent = subst (λ (x : Ground). AreLent x.program g.options (standing (filled_pair jobs g.pair).stand.threads) g.pair.entries jobs) (sym base)
          (subst (λ (x : PlainOptions). AreLent f.base.program x (standing (filled_pair jobs g.pair).stand.threads) g.pair.entries jobs) (sym options)
          (subst (λ (q : Pair Origin). AreLent f.base.program f.options (standing q.stand.threads) q.entries jobs) (sym e) l));
    })

pub as_many_lent : (g : PlainFloor) (jobs : List Job) (q : Pair Origin) → filled_pair jobs g.pair ≡ q → length g.pair.stand.threads ≡ length q.stand.threads
as_many_lent g jobs q e = sym (filled_length g.pair.entries jobs g.pair.stand.threads) ∙ ap (λ (x : Pair Origin). length x.stand.threads) e
