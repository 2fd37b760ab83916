-- A run that waits.
use Rattle.std.proofs.Common.{◌≡◌, Bool, true, false, List, refl, ap, sym, subst, ◌∙◌, Some, None, if◌then◌else◌}
use Rattle.std.specs.Prelude.{Result, Ok, Err, IfOk, OnOk, is_none}
use Rattle.std.proofs.lemmas.Bool.{and_parts}
use Rattle.js_value.specs.Value.{PlainSet}
use Rattle.js_meaning.specs.Bodies.{Origin}
use Rattle.bp_log.specs.Options.{PlainOptions}
use Rattle.bp_log.specs.declared.trace.Line.{Line}
use Rattle.bp_run.specs.Bodies.{Code}
use Rattle.bp_run.specs.Configuration.{Configuration, Stand}
use Rattle.bp_run.specs.Settling.{at_rest}
use Rattle.bp_run.specs.Story.{Next, next}
use Rattle.bp_run.specs.Story.Next.{Ends, Selects, Waits}
use Rattle.bp_run.proofs.Turns.{settle-rest}
use Rattle.bp_run.proofs.Waiting.{only_waiting_runs_wait}
use Rattle.bp_steps.specs.declared.step.CoreStep.TheVariants.{Pick}
use Rattle.bp_steps.specs.Steps.{Moment, pair_at, lends, is_resting, picked, settled, after_step}
use Rattle.bp_arbiter.specs.declared.picked.Picked.{Picked}
use Rattle.bp_arbiter.specs.declared.picked.Picked.TheVariants.{Wait}
use Rattle.bp_arbiter.specs.Arbiters.{PlainArbiter, code_in, options_in, coming}
use Rattle.bp_arbiter.specs.Pick.{picked_of}
use Rattle.bp_core.specs.declared.stepping.Core.{Core}
use Rattle.bp_core.specs.Cores.{IsCoreAt, Makes, KeepsProgram}
use Rattle.bp_core.specs.Moments.{step_on}
use Rattle.bp_turns.specs.Settled.{IsSomewhereHere}
use Rattle.bp_turns.proofs.Arbiters.{same_code, coming_at}
use Rattle.bp_session.specs.inner.Serving.{StaysThere}
use Rattle.bp_session.specs.inner.Turning.{IsWaiting}
use Rattle.bp_session.proofs.Picked.{pick_next}

-- only where a run waits a pick answers so
waits_of : (x : Next) → picked_of x ≡ Wait → x ≡ Waits
waits_of (Ends v) h = absurd (cc)
waits_of (Selects ch reached) h = absurd (cc)
waits_of Waits h = refl

same_some : {A : Type 0} (x y : A) → Some x ≡ Some y → x ≡ y
same_some x y e = cc

if_true : {A : Type 0} (b : Bool) (x n : A) → (if b then Some x else None) ≡ Some n → b ≡ true
if_true true x n e = refl
if_true false x n e = absurd (cc)

-- it is asked only where nothing is to be run
pick_rests : (a : PlainArbiter) (m n : Moment Origin) → step_on a m Pick ≡ Some n → at_rest (pair_at m) ≡ true
unfolding after_step
pick_rests a m n e =
    let rests = if_true (is_resting m) (picked (code_in a) m (next (code_in a) (options_in a) m.told)) n e in
    (and_parts (at_rest (pair_at m)) (is_none m.told.stand.verdict) rests).0

-- where nothing is to be run, the records have led to where the run stands
settled_rest : (l : Code Origin PlainSet) (m : Moment Origin) → at_rest (pair_at m) ≡ true → settled l m ≡ m.told
settled_rest l m h = ap (λ (s : Stand Origin). record m.told { stand = s }) (settle-rest l (pair_at m) h)

-- a pick tells what comes next
abbrev pub Foretells : Core → Picked → Type 0
Foretells c k = (taken : List Line) (m : Moment Origin) → IsCoreAt c c.jobs.items taken m → k ≡ picked_of (coming c.arbiter m.told)

module _ (old new : Core) (p : KeepsProgram old.arbiter new.arbiter) where
  -- where a pick answers so, the run waits
  pick_waits : (k : Picked) → Makes old new Pick → Foretells old k → IsSomewhereHere old → k ≡ Wait → IsWaiting new
  pick_waits k s is w h =
      let a = old.arbiter in
      let b = new.arbiter in
      let m = w.moment in
      let at = (w.here).at in
      let waits : coming a m.told ≡ Waits = waits_of (coming a m.told) (sym (is w.taken m at) ∙ h) in
      let t = s w.taken m at in
      let same : t.next ≡ m = pick_next a m t.next t.leads ∙ ap (λ (x : Next). picked (code_in a) m x) waits in
      let rests = pick_rests a m t.next t.leads in
      let told : settled (code_in b) t.next ≡ m.told = ap (λ (n : Moment Origin). settled (code_in b) n) same ∙ settled_rest (code_in b) m rests in
      record {
        waits = ap (λ (o : PlainOptions). o.wait) p.options ∙ only_waiting_runs_wait (code_in a) (options_in a) m.told waits;
        nothing_comes = λ d h.
            let here : d ≡ m.told = same_some d (settled (code_in b) t.next) (sym h ∙ ((t.at).at).told) ∙ told in
            coming_at (code_in a) (options_in a) b d (same_code a b p.program p.options) p.options ∙ ap (λ (c : Configuration Origin). coming a c) here ∙ waits;
      }

  -- and the core is there still
  pick_stays : (k : Picked) → Makes old new Pick → Foretells old k → k ≡ Wait → StaysThere old new
  pick_stays k s is h taken m w =
      let a = old.arbiter in
      let waits : coming a m.told ≡ Waits = waits_of (coming a m.told) (sym (is taken m w.at) ∙ h) in
      let t = s taken m w.at in
      let same : t.next ≡ m = pick_next a m t.next t.leads ∙ ap (λ (x : Next). picked (code_in a) m x) waits in
      record {
        at = subst (λ (n : Moment Origin). IsCoreAt new new.jobs.items taken n) same t.at;
        unbegun = w.unbegun ∙ ap (λ (l : Code Origin PlainSet). lends l (pair_at m)) (sym (same_code a new.arbiter p.program p.options));
      }

  pub stays_where : {E : Type 0} (r : Result Picked E) → OnOk r (Makes old new Pick) → IfOk r (Foretells old) → IfOk r (λ k. k ≡ Wait → StaysThere old new)
  stays_where (Ok k) s is = pick_stays k s is
  stays_where (Err e) s is = tt

  pub waits_where : {E : Type 0} (r : Result Picked E) → OnOk r (Makes old new Pick) → IfOk r (Foretells old) → IfOk r (λ k. IsSomewhereHere old → k ≡ Wait → IsWaiting new)
  waits_where (Ok k) s is = λ w h. pick_waits k s is w h
  waits_where (Err e) s is = tt
