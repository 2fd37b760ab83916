-- Where a seal leads, by the steps of a core.
use Rattle.std.proofs.Common.{◌≡◌, ◌≤◌, ◌<◌, ℕ, zero, suc, Bool, true, false, not, ◌&&◌, List, [], ◌∷◌, ◌++◌, length, refl, sym, ap, ◌∙◌, subst, arith, Option, Some, None, IsSome, is_none, is_some, append-nil, if◌then◌else◌, slice_index_or}
use Rattle.std.specs.List.{AllZip, list_all}
use Rattle.js_data.specs.Event.{PlainEvent}
use Rattle.js_value.specs.Value.{PlainSet}
use Rattle.js_meaning.specs.State.{Ground}
use Rattle.js_meaning.specs.Bodies.{Origin}
use Rattle.bp_log.specs.Records.{is_complete}
use Rattle.bp_log.specs.declared.limits.TheConstants.{MOST_THREADS}
use Rattle.bp_log.specs.declared.record.Record.{Record}
use Rattle.bp_log.specs.declared.record.Record.TheVariants.{End}
use Rattle.bp_log.specs.declared.trace.Line.{Line}
use Rattle.bp_log.specs.declared.verdict.Verdict.{Verdict}
use Rattle.bp_run.specs.Bodies.{Code}
use Rattle.bp_run.specs.Configuration.{Stand, Thread, change}
use Rattle.bp_run.specs.Settling.{Body, Entry, Pair, at_rest, before, settle, turn}
use Rattle.bp_run.specs.Settling.Entry.{The_top, Runs, Stops}
use Rattle.bp_run.specs.Story.{over, over_with}
use Rattle.bp_run.specs.Story.Next.{Ends}
use Rattle.bp_run.proofs.Turns.{settle-turn, settle_over}
use Rattle.bp_steps.specs.declared.step.CoreStep.TheVariants.{Seal}
use Rattle.bp_steps.specs.Steps.{Moment, pair_at, at_pair, lent_bodies, settled, turned_with, sealed, after_step}
use Rattle.bp_thread.specs.declared.job.Job.{Job}
use Rattle.bp_thread.specs.Jobs.{plain_job}
use Rattle.bp_thread.specs.Carried.{Carries, CarriedOut, AreCarriedOut}
use Rattle.bp_floor.specs.declared.phase.Phase.TheVariants.{Lent}
use Rattle.bp_floor.specs.Loans.{fill, filled, filled_pair}
use Rattle.bp_floor.specs.Floors.{phase_at, phase_of}
use Rattle.bp_arbiter.specs.Arbiters.{PlainArbiter, StandsFor, Recounts, code_in, options_in, stand_in, coming, is_lent as is_lent_phase}
use Rattle.bp_arbiter.specs.Lend.{AreBack}
use Rattle.bp_arbiter.specs.Seal.{ending, ended_with, after_turn}
use Rattle.bp_core.specs.Moments.{HasBegun, AreBegun, IsReadyAt, IsAt, step_on}
use Rattle.bp_core.specs.Cores.{AreDone}
use Rattle.bp_core.proofs.Leads.{ready_from, lent_parts}
use Rattle.bp_arbiter.proofs.PickLemmas.{on}
use Rattle.bp_arbiter.proofs.SealLemmas.{ended_verdict}
use Rattle.bp_arbiter.proofs.Told.{same_story}

-- ---- jobs that were carried on

-- what holds at each place holds of both lists
pub zipped : (R : Job → Job → Type 0) (es xs : List Job) → length xs ≡ length es → ((k : ℕ) (d e : Job) → k < length es → R (slice_index_or es k d) (slice_index_or xs k e)) → AllZip R es xs
zipped R [] [] n h = tt
zipped R [] (x ∷ xs) n h = absurd (omega (arith, n))
zipped R (e ∷ es) [] n h = absurd (omega (arith, n))
zipped R (e ∷ es) (x ∷ xs) n h = (h 0 e x (omega arith), zipped R es xs (omega (arith, n)) (λ k d f l. h (suc k) d f (omega (arith, l))))

module _ (base : Ground) (budget : ℕ) where
  fills_alike : (i : ℕ) (e x : Job) (ts : List (Thread Origin)) → Carries base budget e x → change (fill (plain_job x)) i ts ≡ change (fill (plain_job e)) i ts
  fills_alike i e x ts c =
      let fills : Origin → List PlainEvent → List (Thread Origin) = λ o rs. change (λ t. record t { origin = o; replies = rs }) i ts in
      ap (λ (o : Origin). fills o (plain_job x).replies) (c.same).origin ∙ ap (λ (rs : List PlainEvent). fills (plain_job e).origin rs) (c.same).replies

  filled_on : (ns : List (Entry Origin)) (es xs : List Job) (ts : List (Thread Origin)) → AllZip (Carries base budget) es xs → filled ns xs ts ≡ filled ns es ts
  filled_on [] es xs ts c = refl
  filled_on (n ∷ ns) [] [] ts c = refl
  filled_on (n ∷ ns) [] (x ∷ xs) ts c = absurd c
  filled_on (n ∷ ns) (e ∷ es) [] ts c = absurd c
  filled_on (The_top ∷ ns) (e ∷ es) (x ∷ xs) ts c = filled_on ns es xs ts c.1
  filled_on (Runs i ∷ ns) (e ∷ es) (x ∷ xs) ts c = ap (λ (us : List (Thread Origin)). filled ns xs us) (fills_alike i e x ts c.0) ∙ filled_on ns es xs (change (fill (plain_job e)) i ts) c.1
  filled_on (Stops i None ∷ ns) (e ∷ es) (x ∷ xs) ts c = filled_on ns (e ∷ es) (x ∷ xs) ts c
  filled_on (Stops i (Some b) ∷ ns) (e ∷ es) (x ∷ xs) ts c = filled_on ns es xs ts c.1

  pub pair_on : (p : Pair Origin) (es xs : List Job) → AllZip (Carries base budget) es xs → filled_pair xs p ≡ filled_pair es p
  pair_on p es xs c = ap (λ (ts : List (Thread Origin)). record p { stand = record p.stand { threads = ts } }) (filled_on p.entries es xs p.stand.threads c)

  as_many_on : (es xs : List Job) → AllZip (Carries base budget) es xs → length xs ≡ length es
  as_many_on [] [] c = refl
  as_many_on [] (x ∷ xs) c = absurd c
  as_many_on (e ∷ es) [] c = absurd c
  as_many_on (e ∷ es) (x ∷ xs) c = ap suc (as_many_on es xs c.1)

  each_on : (es xs : List Job) → AllZip (Carries base budget) es xs → AreDone xs → (k : ℕ) (d e : Job) → k < length es → CarriedOut base budget (slice_index_or es k d) (slice_index_or xs k e)
  each_on [] [] c o k d e l = absurd (omega (arith, l))
  each_on [] (x ∷ xs) c o k d e l = absurd c
  each_on (y ∷ es) [] c o k d e l = absurd c
  each_on (y ∷ es) (x ∷ xs) c o zero d e l = record { carries = c.0; outcome = o.0 }
  each_on (y ∷ es) (x ∷ xs) c o (suc k) d e l = each_on es xs c.1 o.1 k d e (omega (arith, l))

  pub carried_out_on : (es xs : List Job) → AllZip (Carries base budget) es xs → AreDone xs → AreCarriedOut base budget es xs
  carried_out_on es xs c o = record { as_many = as_many_on es xs c; each = each_on es xs c o }

  -- what was carried out was carried on, and has its outcomes
  pub carried_all : (es xs : List Job) → AreCarriedOut base budget es xs → AllZip (Carries base budget) es xs
  carried_all es xs c = zipped (Carries base budget) es xs c.as_many (λ k d e l. (c.each k d e l).carries)

  pub outcomes_all : (es xs : List Job) → AreCarriedOut base budget es xs → AreDone xs
  outcomes_all [] [] c = tt
  outcomes_all [] (x ∷ xs) c = let n = c.as_many in absurd (omega (arith, n))
  outcomes_all (e ∷ es) [] c = let n = c.as_many in absurd (omega (arith, n))
  outcomes_all (e ∷ es) (x ∷ xs) c =
      let n = c.as_many in
      ((c.each 0 e x (omega arith)).outcome, outcomes_all es xs (record { as_many = omega (arith, n); each = λ k d f l. c.each (suc k) d f (omega (arith, l)) }))

  none_at : (j : Job) (n : Option ℕ) → HasBegun base budget j n → IsSome (plain_job j).outcome → is_none n ≡ true
  none_at j None h o = refl
  none_at j (Some n) h o = absurd (let z : false ≡ true = sym (ap is_some h.0) ∙ o in cc)

  pub all_none : (bs : List (Body Origin)) (js : List Job) (ns : List (Option ℕ)) → AreBegun base budget bs js ns → AreDone js → list_all is_none ns ≡ true
  all_none [] [] [] h o = refl
  all_none [] [] (n ∷ ns) h o = absurd h
  all_none [] (j ∷ js) ns h o = absurd h
  all_none (b ∷ bs) [] ns h o = absurd h
  all_none (b ∷ bs) (j ∷ js) [] h o = absurd h
  all_none (b ∷ bs) (j ∷ js) (n ∷ ns) h o = ap (λ (x : Bool). x && list_all is_none ns) (none_at j n (h.0).begun o.0) ∙ all_none bs js ns h.1 o.1

pub stands_back : (a : PlainArbiter) (es xs : List Job) (taken : List Line) (p : Pair Origin) → AllZip (Carries a.floor.base (options_in a).budget) es xs → StandsFor a xs taken p → StandsFor a es taken p
stands_back a es xs taken p c s =
    record {
      whole = s.whole;
      told = s.told;
      story = s.story;
      settles = s.settles;
      reading = s.reading;
      bad = s.bad;
      drawn = s.drawn;
      floor = s.floor ∙ ap (λ (q : Pair Origin). before taken q) (pair_on a.floor.base (options_in a).budget a.floor.pair es xs c);
      calls = s.calls;
    }

-- ---- a seal

ended_entries : (q : Pair Origin) (v : Option Verdict) → (ended_with v q).entries ≡ q.entries
ended_entries q None = refl
ended_entries q (Some v) = refl

module _ (a : PlainArbiter) (jobs : List Job) (taken : List Line) (m : Moment Origin) (h : IsAt a jobs taken m) (f : a.phase ≡ Lent) where
  abbrev l : Code Origin PlainSet
  l = code_in a

  abbrev q : Pair Origin
  q = turn l (pair_at m)

  pub busy : at_rest (pair_at m) ≡ false
  busy = lent_parts m.told.stand.verdict m.entries (sym h.phase ∙ f)

  pub seal_leads : AreDone jobs → step_on a m Seal ≡ Some (sealed l m q)
  unfolding after_step
  seal_leads o =
      ap (λ (b : Bool). if b then Some (sealed l m q) else None)
      (ap (λ (b : Bool). not b && list_all is_none m.lent) busy ∙ all_none a.floor.base (options_in a).budget (lent_bodies l (pair_at m)) jobs m.lent h.lent o)

  module _ (b : PlainArbiter) (going : is_complete a.records ≡ false) (program : b.floor.base.program ≡ a.floor.base.program) (options : options_in b ≡ options_in a)
      (rs : b.records ≡ a.records ++ ending (stand_in b).verdict) (s : StandsFor b [] taken (after_turn l (pair_at m))) (g : b.phase ≡ phase_of b.floor.pair) (few : length m.told.stand.threads ≤ MOST_THREADS)
      (ends : (v : Verdict) → (stand_in b).verdict ≡ Some v → coming a (settled l m) ≡ Ends v) where
    verdict_is : (stand_in b).verdict ≡ q.stand.verdict
    verdict_is = sym (ap (λ (p : Pair Origin). p.stand.verdict) s.floor) ∙ ended_verdict q q.stand.verdict refl

    entries_are : b.floor.pair.entries ≡ q.entries
    entries_are = sym (ap (λ (p : Pair Origin). p.entries) s.floor) ∙ ended_entries q q.stand.verdict

    goes_on_as : settle l q ≡ settle l (pair_at m)
    goes_on_as = settle-turn l (pair_at m) few busy

    records_are : (v : Option Verdict) → q.stand.verdict ≡ v → b.records ≡ m.records ++ ending v
    records_are v e = rs ∙ ap (λ (w : Option Verdict). a.records ++ ending w) (verdict_is ∙ e) ∙ ap (λ (ys : List Record). ys ++ ending v) h.records

    phase_is : (v : Option Verdict) → q.stand.verdict ≡ v → b.phase ≡ phase_at v q.entries
    phase_is v e = g ∙ ap (λ (w : Option Verdict). phase_at w b.floor.pair.entries) (verdict_is ∙ e) ∙ ap (λ (ns : List (Entry Origin)). phase_at v ns) entries_are

    at : (v : Option Verdict) → q.stand.verdict ≡ v → StandsFor b [] taken (ended_with v q) → IsReadyAt b taken (turned_with l m q v)
    at None e t =
        let n : Moment Origin = at_pair l m q in
        let same : b.records ≡ a.records = records_are None e ∙ append-nil m.records ∙ sym h.records in
        let story : Recounts b (settled l n) = subst (λ (x : Stand Origin). Recounts b (record m.told { stand = x })) (sym goes_on_as) (same_story a b (settled l m) program options same h.told) in
        ready_from a b taken n program options t (same ∙ h.records) story (phase_is None e ∙ ap (λ (w : Option Verdict). phase_at w q.entries) (sym e)) refl
    at (Some v) e t =
        let n : Moment Origin = turned_with l m q (Some v) in
        let there : settle l (pair_at m) ≡ q.stand = sym goes_on_as ∙ settle_over l q (ap is_some e) in
        let story : Recounts b (over_with (settled l m) v) =
        same_story (record a { records = a.records ++ End v ∷ [] }) b (over_with (settled l m) v) program options (records_are (Some v) e ∙ ap (λ (ys : List Record). ys ++ End v ∷ []) (sym h.records))
        (on a (settled l m) (Ends v) h.told going (ends v (verdict_is ∙ e))) in
        let as_settled : over_with (settled l m) v ≡ settled l n =
        ap (λ (x : Stand Origin). record m.told { stand = over x v }) there ∙ ap (λ (x : Stand Origin). record m.told { stand = x }) (sym (settle_over l (pair_at n) refl)) in
        ready_from a b taken n program options t (records_are (Some v) e) (subst (Recounts b) as_settled story) (phase_is (Some v) e) refl

    -- the turn is merged
    pub ready_sealed : IsReadyAt b taken (sealed l m q)
    ready_sealed = at q.stand.verdict refl s

-- done jobs are back
pub back_of : (a : PlainArbiter) (jobs : List Job) (taken : List Line) (m : Moment Origin) → IsAt a jobs taken m → a.phase ≡ Lent → AreDone jobs → AreBack a jobs
back_of a jobs taken m h f o =
    let out = h.out f in
    record {
      lent = out.first;
      taken = taken;
      pair = pair_at m;
      stands = stands_back a out.first jobs taken (pair_at m) out.carried h.stands;
      out = out.out;
      carried = carried_out_on a.floor.base (options_in a).budget out.first jobs out.carried o;
    }

pub unlent_phase : (v : Option Verdict) (ns : List (Entry Origin)) → is_lent_phase (phase_at v ns) ≡ false
unlent_phase None [] = refl
unlent_phase None (n ∷ ns) = refl
unlent_phase (Some v) ns = refl

-- ---- jobs that were carried on twice

carries_on : (base : Ground) (budget : ℕ) (e j x : Job) → Carries base budget e j → Carries base budget j x → Carries base budget e x
carries_on base budget e j x a b =
    record {
      same = record {
        number = (b.same).number ∙ (a.same).number;
        name = (b.same).name ∙ (a.same).name;
        origin = (b.same).origin ∙ (a.same).origin;
        replies = (b.same).replies ∙ (a.same).replies;
      };
      stands = λ h. b.stands (a.stands h);
      whole = λ h. b.whole (a.whole h);
      of_program = λ h. b.of_program (a.of_program h);
    }

all_carried_on : (base : Ground) (budget : ℕ) (es js xs : List Job) → AllZip (Carries base budget) es js → AllZip (Carries base budget) js xs → AllZip (Carries base budget) es xs
all_carried_on base budget [] [] [] a b = tt
all_carried_on base budget [] [] (x ∷ xs) a b = absurd b
all_carried_on base budget [] (j ∷ js) xs a b = absurd a
all_carried_on base budget (e ∷ es) [] xs a b = absurd a
all_carried_on base budget (e ∷ es) (j ∷ js) [] a b = absurd b
all_carried_on base budget (e ∷ es) (j ∷ js) (x ∷ xs) a b = (carries_on base budget e j x a.0 b.0, all_carried_on base budget es js xs a.1 b.1)

stands_forth : (a : PlainArbiter) (es xs : List Job) (taken : List Line) (p : Pair Origin) → AllZip (Carries a.floor.base (options_in a).budget) es xs → StandsFor a es taken p → StandsFor a xs taken p
stands_forth a es xs taken p c s =
    record {
      whole = s.whole;
      told = s.told;
      story = s.story;
      settles = s.settles;
      reading = s.reading;
      bad = s.bad;
      drawn = s.drawn;
      floor = s.floor ∙ ap (λ (q : Pair Origin). before taken q) (sym (pair_on a.floor.base (options_in a).budget a.floor.pair es xs c));
      calls = s.calls;
    }

-- the jobs were carried on, and so much of each of them has begun now
pub carried_at : (a : PlainArbiter) (jobs xs : List Job) (taken : List Line) (m : Moment Origin) (ns : List (Option ℕ)) → IsAt a jobs taken m → AllZip (Carries a.floor.base (options_in a).budget) jobs xs →
    AreBegun a.floor.base (options_in a).budget (lent_bodies (code_in a) (pair_at m)) xs ns → IsAt a xs taken (record m { lent = ns })
carried_at a jobs xs taken m ns h c b =
    record {
      stands = stands_forth a jobs xs taken (pair_at m) c h.stands;
      records = h.records;
      told = h.told;
      phase = h.phase;
      lent = b;
      out = λ f. let o = h.out f in record { first = o.first; out = o.out; distinct = o.distinct; carried = all_carried_on a.floor.base (options_in a).budget o.first jobs xs o.carried c };
    }
