-- What turns leave of an arbiter, whatever run it serves.
use Rattle.std.proofs.Common.{◌≡◌, ◌⊎◌, inl, inr, false, List, [], ◌∷◌, ◌++◌, refl, ap, sym, ◌∙◌, append-nil, Option, Some, None, Ok, Err}
use Rattle.std.specs.Prelude.{Result, OnOk}
use Rattle.js_data.proofs.Shared.{one_answer}
use Rattle.js_meaning.specs.Bodies.{Origin}
use Rattle.bp_log.specs.declared.record.Record.{Record}
use Rattle.bp_log.specs.declared.record.Record.TheVariants.{End}
use Rattle.bp_log.specs.declared.trace.Line.{Line}
use Rattle.bp_log.specs.declared.verdict.Verdict.{Verdict}
use Rattle.bp_run.specs.Configuration.{Configuration, Stand}
use Rattle.bp_run.specs.Settling.{Entry, Pair, turn}
use Rattle.bp_run.specs.Story.{story}
use Rattle.bp_thread.specs.declared.job.Job.{Job}
use Rattle.bp_thread.specs.Carried.{AreCarriedOut}
use Rattle.bp_floor.specs.declared.phase.Phase.{Phase}
use Rattle.bp_floor.specs.declared.phase.Phase.TheVariants.{Ready, Over}
use Rattle.bp_floor.specs.Floors.{phase_at, phase_of}
use Rattle.bp_arbiter.specs.Arbiters.{PlainArbiter, code_in, options_in, stand_in, Recounts, StandsFor, StandsSomewhere, is_lent, is_over}
use Rattle.bp_arbiter.specs.Seal.{ending, after_turn}
use Rattle.bp_arbiter.proofs.SealLemmas.{ended_verdict}
use Rattle.bp_turns.specs.Turning.{GoesOn, Closes, Settles}
use Rattle.bp_turns.proofs.Verdicts.{settles_over}
use Rattle.bp_turns.proofs.Arbiters.{same_code, recounts_in}

-- no turn was made
pub settles_refl : (a : PlainArbiter) → Settles a a
settles_refl a = record { code = refl; options = refl; stands = λ t w. w; unlent = λ e. e; recorded = inl (refl, refl) }

-- where the code and the options are the same, the same records lead to the same
pub recounts_on : (a b : PlainArbiter) (c : Configuration Origin) → code_in b ≡ code_in a → options_in b ≡ options_in a → b.records ≡ a.records → Recounts a c → Recounts b c
recounts_on a b c p q r h = recounts_in (code_in a) (options_in a) b c p q (ap (λ (es : List Record). story (code_in a) (options_in a) es) r ∙ h)

-- the verdict that was recorded after some turns was there before them
closes_on : (a b d : PlainArbiter) → code_in b ≡ code_in a → options_in b ≡ options_in a → GoesOn a b → Closes b d → Closes a d
closes_on a b d p q (r, f) k =
    let v = k.verdict in
    record {
      verdict = v;
      going = sym f ∙ k.going;
      over = k.over;
      records = k.records ∙ ap (λ (es : List Record). es ++ End v ∷ []) r;
      comes = λ c h. k.comes c (recounts_on a b c p q r h);
    }

recorded_on : (a b d : PlainArbiter) → code_in b ≡ code_in a → options_in b ≡ options_in a → b.phase ≡ Ready → GoesOn a b ⊎ Closes a b → GoesOn b d ⊎ Closes b d →
    GoesOn a d ⊎ Closes a d
recorded_on a b d p q e (inl h) (inl k) = inl (k.0 ∙ h.0, k.1 ∙ h.1)
recorded_on a b d p q e (inl h) (inr k) = inr (closes_on a b d p q h k)
recorded_on a b d p q e (inr h) k = absurd (let over : Over ≡ Ready = sym h.over ∙ e in cc)

-- more turns were made
pub settles_trans : (a b d : PlainArbiter) → b.phase ≡ Ready → Settles a b → Settles b d → Settles a d
settles_trans a b d e s t =
    record {
      code = t.code ∙ s.code;
      options = t.options ∙ s.options;
      stands = λ ls w. t.stands ls (s.stands ls w);
      unlent = λ u. t.unlent (s.unlent u);
      recorded = recorded_on a b d s.code s.options e s.recorded t.recorded;
    }

pub settles_somewhere : (a b : PlainArbiter) → Settles a b → StandsSomewhere a → StandsSomewhere b
settles_somewhere a b s u = let w = s.stands u.taken (u.pair, u.stands) in record { taken = u.taken; pair = w.0; stands = w.1 }

unlent_at : (v : Option Verdict) (ns : List (Entry Origin)) → is_lent (phase_at v ns) ≡ false
unlent_at (Some v) ns = refl
unlent_at None [] = refl
unlent_at None (n ∷ ns) = refl

not_over : (ns : List (Entry Origin)) → is_over (phase_at None ns) ≡ false
not_over [] = refl
not_over (n ∷ ns) = refl

-- the record of a verdict, if there is one
closes_by : (old mid new : PlainArbiter) (ns : List (Entry Origin)) (v : Option Verdict) → old.phase ≡ Ready → code_in mid ≡ code_in old → options_in mid ≡ options_in old → mid.records ≡ old.records →
    new.records ≡ mid.records ++ ending v → new.phase ≡ phase_at v ns → ((c : Configuration Origin) → Recounts mid c → (w : Verdict) → v ≡ Some w → c.stand.verdict ≡ Some w) →
    GoesOn old new ⊎ Closes old new
closes_by old mid new ns None e p q r recorded ph over =
    inl (recorded ∙ append-nil mid.records ∙ r, ap (λ (f : Phase). is_over f) ph ∙ not_over ns ∙ sym (ap (λ (f : Phase). is_over f) e))
closes_by old mid new ns (Some w) e p q r recorded ph over =
    inr (record {
      verdict = w;
      going = ap (λ (f : Phase). is_over f) e;
      over = ph;
      records = recorded ∙ ap (λ (es : List Record). es ++ End w ∷ []) r;
      comes = λ c h. over c (recounts_on old mid c p q r h) w refl;
    })

-- a verdict of merging is that of the story
merged_verdict : (mid new : PlainArbiter) (jobs : List Job) (taken : List Line) (p : Pair Origin) (v : Verdict) → StandsFor mid jobs taken p → StandsFor new [] taken (after_turn (code_in mid) p) →
    (stand_in new).verdict ≡ Some v → (c : Configuration Origin) → Recounts mid c → c.stand.verdict ≡ Some v
merged_verdict mid new jobs taken p v s t e c h =
    let q = turn (code_in mid) p in
    let shown : q.stand.verdict ≡ Some v = sym (ended_verdict q q.stand.verdict refl) ∙ ap (λ (x : Pair Origin). x.stand.verdict) t.floor ∙ e in
    ap (λ (x : Configuration Origin). x.stand.verdict) (one_answer (story (code_in mid) (options_in mid) mid.records) c s.told h s.story)
    ∙ ap (λ (x : Stand Origin). x.verdict) s.settles ∙ settles_over (code_in mid) p v shown

-- the lent jobs were sealed
pub turn_settles : {E : Type 0} (r : Result Phase E) (old mid new : PlainArbiter) (jobs after : List Job) → old.phase ≡ Ready → StandsSomewhere old →
    ((t : List Line) (p : Pair Origin) → StandsFor old [] t p → StandsFor mid jobs t p) → mid.records ≡ old.records → mid.floor.base ≡ old.floor.base → options_in mid ≡ options_in old →
    AreCarriedOut mid.floor.base (options_in mid).budget jobs after →
    OnOk r ((lent : List Job) (t : List Line) (p : Pair Origin) → StandsFor mid lent t p → AreCarriedOut mid.floor.base (options_in mid).budget lent after → StandsFor new [] t (after_turn (code_in mid) p)) →
    OnOk r (new.phase ≡ phase_of new.floor.pair) → OnOk r (new.records ≡ mid.records ++ ending (stand_in new).verdict) →
    new.floor.base.program ≡ mid.floor.base.program → options_in new ≡ options_in mid → OnOk r (Settles old new)
turn_settles (Ok f) old mid new jobs after e u lend rec b q carried seal ph recorded p q' =
    let code : code_in mid ≡ code_in old = same_code old mid (ap (λ y. y.program) b) q in
    let before = lend u.taken u.pair u.stands in
    record {
      code = same_code mid new p q' ∙ code;
      options = q' ∙ q;
      stands = λ t w. (after_turn (code_in mid) w.0, seal jobs t w.0 (lend t w.0 w.1) carried);
      unlent = λ _. ap (λ (x : Phase). is_lent x) ph ∙ unlent_at (stand_in new).verdict new.floor.pair.entries;
      recorded = closes_by old mid new new.floor.pair.entries (stand_in new).verdict e code q rec recorded ph
          (λ c h w d. merged_verdict mid new jobs u.taken u.pair w before (seal jobs u.taken u.pair before carried) d c h);
    }
turn_settles (Err x) old mid new jobs after e u lend rec b q carried seal ph recorded p q' = tt
