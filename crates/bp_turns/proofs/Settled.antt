-- Where turns lead a core.
use Rattle.std.proofs.Common.{◌≡◌, ◌⊎◌, inl, inr, ℕ, ◌<◌, Bool, true, false, ◌&&◌, List, [], ◌∷◌, ◌++◌, length, refl, sym, ap, subst, ◌∙◌, Option, Some, None, is_none, if◌then◌else◌}
use Rattle.std.specs.Prelude.{Result, Ok, Err, OnOk, OnErr}
use Rattle.std.specs.List.{AllZip, list_all}
use Rattle.js_value.specs.Value.{PlainSet}
use Rattle.js_meaning.specs.Bodies.{Origin}
use Rattle.bp_log.specs.declared.record.Record.{Record}
use Rattle.bp_log.specs.declared.record.Record.TheVariants.{End}
use Rattle.bp_log.specs.declared.trace.Line.{Line}
use Rattle.bp_log.specs.declared.verdict.Verdict.{Verdict}
use Rattle.bp_run.specs.Bodies.{Code}
use Rattle.bp_run.specs.Settling.{Pair, turn}
use Rattle.bp_steps.specs.declared.step.CoreStep.TheVariants.{Seal}
use Rattle.bp_steps.specs.Steps.{Moment, pair_at, lends, is_lent, sealed, turned_with, after_step}
use Rattle.bp_thread.specs.declared.job.Job.{Job}
use Rattle.bp_thread.specs.Carried.{Carries}
use Rattle.bp_floor.specs.declared.phase.Phase.{Phase}
use Rattle.bp_floor.specs.declared.phase.Phase.TheVariants.{Ready, Lent, Rest, Over}
use Rattle.bp_floor.specs.Floors.{phase_of}
use Rattle.bp_arbiter.specs.Arbiters.{PlainArbiter, code_in, options_in, stand_in}
use Rattle.bp_arbiter.proofs.Told.{stands_tells}
use Rattle.bp_core.specs.declared.stepping.Core.{Core}
use Rattle.bp_core.specs.Cores.{IsCoreAt, IsSomewhere, Makes, Cuts, AreBetween, HandsIn, KeepsProgram}
use Rattle.bp_core.specs.Moments.{IsAt, lent_at_once, step_on}
use Rattle.bp_turns.specs.Settled.{IsHere, IsSomewhereHere, EndsWith, ClosesCore, SettlesCore, IsCutInTurns, CutsTurns, IsSettled}
use Rattle.bp_turns.proofs.Arbiters.{same_code}

-- ---- the moment after a turn

if_some : {A : Type 0} (b : Bool) (x n : A) → (if b then Some x else None) ≡ Some n → n ≡ x
if_some true x n e = cc
if_some false x n e = absurd (cc)

seal_next : (a : PlainArbiter) (m n : Moment Origin) → step_on a m Seal ≡ Some n → n ≡ sealed (code_in a) m (turn (code_in a) (pair_at m))
unfolding after_step
seal_next a m n e = if_some (is_lent m && list_all is_none m.lent) (sealed (code_in a) m (turn (code_in a) (pair_at m))) n e

module _ (l : Code Origin PlainSet) (m : Moment Origin) (q : Pair Origin) where
  again_with : (ks : List (Option ℕ)) (v : Option Verdict) → turned_with l (record m { lent = ks }) q v ≡ turned_with l m q v
  again_with ks None = refl
  again_with ks (Some v) = refl

  unbegun_with : (v : Option Verdict) → (turned_with l m q v).lent ≡ lends l (pair_at (turned_with l m q v))
  unbegun_with None = refl
  unbegun_with (Some v) = refl

  ends_with : (v : Option Verdict) → ((turned_with l m q v).records ≡ m.records) ⊎ EndsWith m.records (turned_with l m q v).records
  ends_with None = inl refl
  ends_with (Some v) = inr (record { verdict = v; records = refl })

  closes_with : (v : Option Verdict) (a : PlainArbiter) → a.phase ≡ lent_at_once (phase_of (pair_at (turned_with l m q v))) →
      ((turned_with l m q v).records ≡ m.records) ⊎ ClosesCore m (turned_with l m q v) a
  closes_with None a f = inl refl
  closes_with (Some v) a f = inr (record { ends = record { verdict = v; records = refl }; over = f })

-- ---- one turn

-- the lent jobs were handed out, or came back: the core is where it was
pub still_at : (old new : Core) (jobs xs : List Job) (taken : List Line) (m : Moment Origin) → new.arbiter ≡ old.arbiter → new.broken ≡ old.broken → xs ≡ jobs → IsCoreAt old jobs taken m → IsCoreAt new xs taken m
still_at old new jobs xs taken m e b j h =
    record {
      whole = b ∙ h.whole;
      at = subst (λ (ys : List Job). IsAt new.arbiter ys taken m) (sym j) (subst (λ (a : PlainArbiter). IsAt a jobs taken m) (sym e) h.at);
    }

-- the carried jobs came back
pub record CameBack (old new : Core) : Type 0 where
  pub arbiter : new.arbiter ≡ old.arbiter
  pub at : (taken : List Line) (m : Moment Origin) → IsHere old taken m → (ks : List (Option ℕ)) × IsCoreAt new new.jobs.items taken (record m { lent = ks })

pub came_back : (old out new : Core) (lent done : List Job) → out.arbiter ≡ old.arbiter → out.broken ≡ old.broken → lent ≡ old.jobs.items → HandsIn out done new → new.arbiter ≡ out.arbiter →
    AllZip (Carries out.arbiter.floor.base (options_in out.arbiter).budget) lent done → CameBack old new
came_back old out new lent done e b j h f carried =
    record {
      arbiter = f ∙ e;
      at = λ taken m here. h lent taken m (still_at old out old.jobs.items lent taken m e b j here.at) carried;
    }

pub back_somewhere : (old new : Core) → CameBack old new → IsSomewhereHere old → IsSomewhere new new.jobs.items
back_somewhere old new b s = let r = b.at s.taken s.moment s.here in record { taken = s.taken; moment = record s.moment { lent = r.0 }; at = r.1 }

module _ (old back new : Core) (b : CameBack old back) (p : KeepsProgram back.arbiter new.arbiter) where
  pub turn_settles_core : Makes back new Seal → SettlesCore old new
  turn_settles_core s taken m h =
      let r = b.at taken m h in
      let t = s taken (record m { lent = r.0 }) r.1 in
      let l = code_in back.arbiter in
      let q = turn l (pair_at m) in
      let n = sealed l m q in
      let is : t.next ≡ n = seal_next back.arbiter (record m { lent = r.0 }) t.next t.leads ∙ again_with l m q r.0 q.stand.verdict in
      let at : IsCoreAt new new.jobs.items taken n = subst (λ (x : Moment Origin). IsCoreAt new new.jobs.items taken x) is t.at in
      record {
        next = n;
        here = record { at = at; unbegun = unbegun_with l m q q.stand.verdict ∙ ap (λ (k : Code Origin PlainSet). lends k (pair_at n)) (sym (same_code back.arbiter new.arbiter p.program p.options)) };
        records = closes_with l m q q.stand.verdict new.arbiter (at.at).phase;
      }

  between_ends : (m : Moment Origin) (ks : List (Option ℕ)) (rs : List Record) → AreBetween back.arbiter (record m { lent = ks }) Seal rs → (rs ≡ m.records) ⊎ EndsWith m.records rs
  between_ends m ks rs (inl e) = inl e
  between_ends m ks rs (inr n) =
      let l = code_in back.arbiter in
      let q = turn l (pair_at m) in
      let is : n.0 ≡ sealed l m q = seal_next back.arbiter (record m { lent = ks }) n.0 n.1 ∙ again_with l m q ks q.stand.verdict in
      subst (λ (xs : List Record). (xs ≡ m.records) ⊎ EndsWith m.records xs) (sym (n.2 ∙ ap (λ (x : Moment Origin). x.records) is)) (ends_with l m q q.stand.verdict)

  pub turn_cut : Cuts back new Seal → CutsTurns old new
  turn_cut s taken m h =
      let r = b.at taken m h in
      let t = s taken (record m { lent = r.0 }) r.1 in
      record { records = between_ends m r.0 new.arbiter.records t.records; tells = t.tells }

  pub turn_kept : KeepsProgram old.arbiter new.arbiter
  turn_kept = subst (λ (a : PlainArbiter). KeepsProgram a new.arbiter) b.arbiter p

  pub turn_grows : (new.arbiter.phase ≡ Lent → length (stand_in back.arbiter).threads < length (stand_in new.arbiter).threads) → new.arbiter.phase ≡ Lent →
      length (stand_in old.arbiter).threads < length (stand_in new.arbiter).threads
  turn_grows g f = subst (λ (a : PlainArbiter). length (stand_in a).threads < length (stand_in new.arbiter).threads) b.arbiter (g f)

-- memory ran out while the jobs were out
pub out_cut : (old new : Core) → new.arbiter ≡ old.arbiter → CutsTurns old new
out_cut old new e taken m h =
    subst (λ (a : PlainArbiter). IsCutInTurns a taken m) (sym e)
    (record { records = inl ((h.at).at).records; tells = stands_tells old.arbiter old.jobs.items taken (pair_at m) ((h.at).at).stands })

pub same_program : (a b : PlainArbiter) → b ≡ a → KeepsProgram a b
same_program a b e = subst (λ (x : PlainArbiter). KeepsProgram a x) (sym e) (record { program = refl; options = refl })

-- ---- turn after turn

pub settles_none : (c : Core) → SettlesCore c c
settles_none c taken m h = record { next = m; here = h; records = inl refl }

records_on : (m n k : Moment Origin) (b d : PlainArbiter) → b.phase ≡ Lent → (n.records ≡ m.records) ⊎ ClosesCore m n b → (k.records ≡ n.records) ⊎ ClosesCore n k d → (k.records ≡ m.records) ⊎ ClosesCore m k d
records_on m n k b d f (inl e) (inl w) = inl (w ∙ e)
records_on m n k b d f (inl e) (inr w) =
    inr (record { ends = record { verdict = (w.ends).verdict; records = (w.ends).records ∙ ap (λ (es : List Record). es ++ End (w.ends).verdict ∷ []) e }; over = w.over })
records_on m n k b d f (inr e) w = absurd (let over : Over ≡ Lent = sym e.over ∙ f in cc)

pub settles_on : (a b d : Core) → b.arbiter.phase ≡ Lent → SettlesCore a b → SettlesCore b d → SettlesCore a d
settles_on a b d f s t taken m h =
    let x = s taken m h in
    let y = t taken x.next x.here in
    record { next = y.next; here = y.here; records = records_on m x.next y.next b.arbiter d.arbiter f x.records y.records }

cut_records : (m n : Moment Origin) (b : PlainArbiter) (rs : List Record) → b.phase ≡ Lent → (n.records ≡ m.records) ⊎ ClosesCore m n b → (rs ≡ n.records) ⊎ EndsWith n.records rs → (rs ≡ m.records) ⊎ EndsWith m.records rs
cut_records m n b rs f (inl e) (inl w) = inl (w ∙ e)
cut_records m n b rs f (inl e) (inr w) = inr (record { verdict = w.verdict; records = w.records ∙ ap (λ (es : List Record). es ++ End w.verdict ∷ []) e })
cut_records m n b rs f (inr e) w = absurd (let over : Over ≡ Lent = sym e.over ∙ f in cc)

pub cut_on : (a b d : Core) → b.arbiter.phase ≡ Lent → SettlesCore a b → CutsTurns b d → CutsTurns a d
cut_on a b d f s t taken m h =
    let x = s taken m h in
    let y = t taken x.next x.here in
    record { records = cut_records m x.next b.arbiter d.arbiter.records f x.records y.records; tells = y.tells }

pub kept_on : (a b d : PlainArbiter) → KeepsProgram a b → KeepsProgram b d → KeepsProgram a d
kept_on a b d p q = record { program = q.program ∙ p.program; options = q.options ∙ p.options }

pub here_on : (a b : Core) → SettlesCore a b → IsSomewhereHere a → IsSomewhereHere b
here_on a b s w = let x = s w.taken w.moment w.here in record { taken = w.taken; moment = x.next; here = x.here }

-- a core never stands where jobs are to be lent
settled_at : (f g : Phase) → f ≡ lent_at_once g → ¬ (f ≡ Lent) → IsSettled f
settled_at f Ready e n = absurd (n e)
settled_at f Lent e n = absurd (n e)
settled_at f Rest e n = inl e
settled_at f Over e n = inr e

pub settled_here : (c : Core) → IsSomewhereHere c → ¬ (c.arbiter.phase ≡ Lent) → IsSettled c.arbiter.phase
settled_here c w n = settled_at c.arbiter.phase (phase_of (pair_at w.moment)) (((w.here).at).at).phase n

pub whole_here : (c : Core) → IsSomewhereHere c → c.arbiter.broken ≡ false
whole_here c w = ((((w.here).at).at).stands).whole

-- ---- answers

pub ok_map : {T E : Type 0} (r : Result T E) (A B : Type 0) → (A → B) → OnOk r A → OnOk r B
ok_map (Ok x) A B f h = f h
ok_map (Err e) A B f h = tt

pub err_map : {T E : Type 0} (r : Result T E) (A B : Type 0) → (A → B) → OnErr r A → OnErr r B
err_map (Ok x) A B f h = tt
err_map (Err e) A B f h = f h
