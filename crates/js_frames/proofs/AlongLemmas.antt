-- Statements that are done at once, one after the other.
use Rattle.std.proofs.Common.{◌≡◌, ℕ, ◌+◌, ◌-◌, ◌<◌, Some, Result, refl, sym, ap, ◌∙◌, subst, arith}
use Rattle.std.specs.Prelude.{IfOk, slice_get}
use Rattle.std.specs.declared.alloc.AllocError.{AllocError}
use Rattle.js_meaning.specs.State as js
use Rattle.js_meaning.specs.State.{◌>>=◌}
use Rattle.js_meaning.specs.Meaning.{eval}
use Rattle.js_frames.specs.declared.step.Step.{Step}
use Rattle.js_frames.specs.declared.frame.Sequence.{Sequence}
use Rattle.js_frames.specs.Places.{Place, Beside, setting_at, state_at}
use Rattle.js_frames.specs.Frames.{plug, sequence_from, statements_of}
use Rattle.js_frames.specs.Fits.{StackFits}
use Rattle.js_frames.specs.inner.Leads.{Rests, Within, Leads}
use Rattle.js_frames.specs.inner.Doing.{Did}
use Rattle.js_frames.proofs.Steps.{within_like, within_trans, on_ok}
use Rattle.js_frames.proofs.CallLemmas.{next_statement}
use Rattle.js_frames.proofs.DoingLemmas.{did_within}

-- From a place of the statements on, the code does what it did from the first one.
pub record Along (base : js.Ground) (old : Place) (which : Sequence) (place : ℕ) (mid : Place) (at : ℕ) : Type 0 where
  pub same_place : mid ≡ record old { fuel = mid.fuel; slots = mid.slots }
  pub within : Within old mid
  pub same : (b : Beside) → sequence_from (setting_at base old) which at (state_at mid b) ≡ sequence_from (setting_at base old) which place (state_at old b)

pub along_first : (base : js.Ground) (old : Place) (which : Sequence) (place : ℕ) → Along base old which place old place
along_first base old which place = record { same_place = refl; within = within_like old old refl; same = λ b. refl }

module _ (base : js.Ground) (old : Place) (which : Sequence) (place : ℕ) (mid : Place) (at : ℕ) (h : Along base old which place mid at) where
  along_setting : setting_at base mid ≡ setting_at base old
  along_setting = ap (setting_at base) h.same_place

  -- one more statement was done
  pub along_next : (n : ℕ) (next : Place) → slice_get (statements_of base.program which) at ≡ Some n → Did base mid n next → Along base old which place next (at + 1)
  along_next n next get v =
      let g = setting_at base old in
      let into : Place → Place = λ q. record q { fuel = next.fuel; slots = next.slots } in
      record {
        same_place = v.place ∙ ap into h.same_place;
        within = within_trans old mid next h.within (did_within base mid next n v);
        same = λ b.
            ap (λ q. q >>= λ _. sequence_from g which (at + 1)) (sym (v.same b) ∙ ap (λ s. eval s n (state_at mid b)) along_setting)
            ∙ next_statement g which at n (state_at mid b) get
            ∙ h.same b;
      }

  -- what leads on from there leads on from the first one
  pub along_leads : (new : Place) (r : Result Step AllocError) → IfOk r (λ step. Leads base mid (sequence_from (setting_at base mid) which at) new step) → IfOk r (λ step. Leads base old (sequence_from (setting_at base old) which place) new step)
  along_leads new r w =
      on_ok r (λ step l. record {
        same = λ b. l.same b
            ∙ ap (λ q. plug (setting_at base q) q.stack (sequence_from (setting_at base q) which at (state_at mid b))) h.same_place
            ∙ ap (plug (setting_at base old) old.stack) (h.same b);
        same_mode = l.same_mode ∙ ap (λ (q : Place). q.mode) h.same_place;
        same_budget = l.same_budget ∙ ap (λ (q : Place). q.budget) h.same_place;
        within = within_trans old mid new h.within l.within;
        stack_fits = l.stack_fits;
        step_fits = l.step_fits;
        rests = subst (λ fs. Rests step fs new.stack) (ap (λ (q : Place). q.stack) h.same_place) l.rests;
      }) w

  pub along_fits : StackFits base.program old.stack → StackFits base.program mid.stack
  along_fits fits = subst (λ (q : Place). StackFits base.program q.stack) (sym h.same_place) fits

-- the fuel of a statement that is not done at once is given back
pub fuel_back : (old mid : Place) → old.floor < old.fuel → mid ≡ record old { fuel = old.fuel - 1 } → record mid { fuel = mid.fuel + 1 } ≡ old
fuel_back old mid room e =
    let some : old.fuel - 1 + 1 ≡ old.fuel = omega arith in
    ap (λ (q : Place). record q { fuel = q.fuel + 1 }) e ∙ ap (λ k. record old { fuel = k }) some
