-- What an arbiter keeps from call to call.
use Rattle.std.proofs.Common.{◌≡◌, ℕ, true, false, List, [], refl, sym, ap, ◌∙◌, subst, Option, Some, None, is_some, option_map, IsSome, arith}
use Rattle.js_program.specs.PlainProgram.{PlainProgram}
use Rattle.js_meaning.specs.Bodies.{Origin}
use Rattle.bp_log.specs.Options.{PlainOptions}
use Rattle.bp_log.specs.Records.{is_complete, verdict_of}
use Rattle.bp_log.specs.declared.record.Record.{Record}
use Rattle.bp_log.specs.declared.trace.Line.{Line}
use Rattle.bp_log.specs.declared.verdict.Verdict.{Verdict}
use Rattle.bp_log.proofs.Complete.{verdict_complete}
use Rattle.bp_run.specs.Configuration.{below}
use Rattle.bp_run.specs.Settling.{Pair, opening}
use Rattle.bp_thread.specs.declared.job.Job.{Job}
use Rattle.bp_floor.specs.declared.phase.Phase.{Phase}
use Rattle.bp_floor.specs.declared.phase.Phase.TheVariants as phase
use Rattle.bp_floor.specs.Floors.{PlainFloor}
use Rattle.bp_arbiter.specs.Arbiters.{PlainArbiter, StandsFor, Tells, Keeps, is_over, options_in, opened, is_lent}
use Rattle.bp_arbiter.specs.Sound.{IsSound}
use Rattle.bp_arbiter.proofs.Told.{stands_tells, stands_opened}

-- ---- the phase

pub over_is : (f : Phase) → is_over f ≡ true → f ≡ phase.Over
over_is phase.Ready h = absurd (cc)
over_is phase.Lent h = absurd (cc)
over_is phase.Rest h = absurd (cc)
over_is phase.Over h = refl

-- ---- what is kept

pub sound_of : (seed : ℕ) (a : PlainArbiter) (jobs : List Job) (taken : List Line) (p : Pair Origin) → seed ≡ (options_in a).seed → is_complete a.records ≡ is_over a.phase → StandsFor a jobs taken p →
    (is_lent a.phase ≡ false → jobs ≡ []) → Keeps a → IsSound seed a
sound_of seed a jobs taken p h o s u k =
    record {
      seed_is = h;
      over = o;
      taken = taken;
      tells = stands_tells a jobs taken p s;
      standing = λ w. record { jobs = jobs; taken = taken; pair = p; stands = s; unlent = u; keeps = k };
    }

-- after memory ran out
pub sound_broken : (seed : ℕ) (a : PlainArbiter) (taken : List Line) → seed ≡ (options_in a).seed → is_complete a.records ≡ is_over a.phase → Tells a taken → a.broken ≡ true → IsSound seed a
sound_broken seed a taken h o t b =
    record {
      seed_is = h;
      over = o;
      taken = taken;
      tells = t;
      standing = λ w. absurd (let e : true ≡ false = sym b ∙ w in cc);
    }

some_map : {A B : Type 0} (f : A → B) (o : Option A) → is_some (option_map f o) ≡ is_some o
some_map f None = refl
some_map f (Some a) = refl

over_true : (f : Phase) → f ≡ phase.Over → is_over f ≡ true
over_true f h = ap is_over h

-- the verdict is there exactly at `Over`
pub over_exactly : {A : Type 0} (g : A → Verdict) (rs : List Record) (f : Phase) (o : Option A) → option_map g o ≡ verdict_of rs → is_complete rs ≡ is_over f → (IsSome o → f ≡ phase.Over) × (f ≡ phase.Over → IsSome o)
over_exactly g rs f o h k =
    let same : is_some o ≡ is_over f = sym (some_map g o) ∙ ap is_some h ∙ verdict_complete rs ∙ k in
    ((λ s. over_is f (sym same ∙ s)), (λ e. same ∙ over_true f e))

-- ---- before anything has run

-- the parts of an arbiter that was opened
pub opened_is : (program : PlainProgram) (o : PlainOptions) (f : PlainFloor) (d n : ℕ) (reading : List ℕ) (rs : List Record) → f ≡ (opened program o).floor → d ≡ 0 → reading ≡ below n → n ≡ o.injectors → rs ≡ [] →
    record { floor = f; drawn = d; reading = reading; bad = None; records = rs; phase = phase.Ready; broken = false } ≡ opened program o
opened_is program o f d n reading rs h k l m r =
    let made : PlainFloor → ℕ → List ℕ → List Record → PlainArbiter = λ g e ns ss. record { floor = g; drawn = e; reading = ns; bad = None; records = ss; phase = phase.Ready; broken = false } in
    ap (λ (g : PlainFloor). made g d reading rs) h ∙ ap (λ (e : ℕ). made (opened program o).floor e reading rs) k
    ∙ ap (λ (ns : List ℕ). made (opened program o).floor 0 ns rs) (l ∙ ap below m) ∙ ap (λ (ss : List Record). made (opened program o).floor 0 (below o.injectors) ss) r

pub opened_sound : (program : PlainProgram) (o : PlainOptions) (seed : ℕ) (a : PlainArbiter) → a ≡ opened program o → seed ≡ o.seed → IsSound seed a
opened_sound program o seed a h k =
    subst (λ (x : PlainArbiter). IsSound seed x) (sym h)
    (sound_of seed (opened program o) [] [] opening k refl (stands_opened program o) (λ u. refl)
    (record { steps = omega arith; drawn = λ n. omega arith; floor_phase = refl; floor_whole = refl }))

pub opened_stands : (program : PlainProgram) (o : PlainOptions) (a : PlainArbiter) → a ≡ opened program o → StandsFor a [] [] opening
opened_stands program o a h = subst (λ (x : PlainArbiter). StandsFor x [] [] opening) (sym h) (stands_opened program o)
