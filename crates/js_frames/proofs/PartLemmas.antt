-- Parts that only give a value, one after the other.
use Rattle.std.proofs.Common.{◌≡◌, ℕ, List, [], ◌∷◌, ◌++◌, length, Some, Result, refl, sym, ap, ◌∙◌, subst}
use Rattle.std.specs.Prelude.{IfOk, slice_get}
use Rattle.std.specs.declared.alloc.AllocError.{AllocError}
use Rattle.js_value.specs.Value.{PlainValue}
use Rattle.js_program.specs.PlainProgram.{PlainNode, parts_of}
use Rattle.js_meaning.specs.State as js
use Rattle.js_meaning.specs.State.{State, Outcome, ◌>>=◌}
use Rattle.js_meaning.specs.Meaning.{eval}
use Rattle.js_frames.specs.declared.step.Step.{Step}
use Rattle.js_frames.specs.Places.{Place, Beside, setting_at, state_at}
use Rattle.js_frames.specs.Frames.{parts_from, plug}
use Rattle.js_frames.specs.Fits.{StackFits}
use Rattle.js_frames.specs.inner.Leads.{Rests, Within, Leads}
use Rattle.js_frames.specs.inner.Giving.{Gave}
use Rattle.js_frames.proofs.Steps.{within_like, within_trans, on_ok}
use Rattle.js_frames.proofs.GivingLemmas.{gave_within}
use Rattle.js_frames.proofs.InOrder.{parts_wait}

-- From a place and this many values on, what a node does is what it did from the first ones.
pub record Onto (base : js.Ground) (old : Place) (n : ℕ) (first : List PlainValue) (mid : Place) (done : List PlainValue) : Type 0 where
  pub place : mid ≡ record old { fuel = mid.fuel }
  pub within : Within old mid
  pub same : (b : Beside) → parts_from (setting_at base old) (slice_get base.program.nodes n) done (state_at mid b) ≡ parts_from (setting_at base old) (slice_get base.program.nodes n) first (state_at old b)

pub onto_first : (base : js.Ground) (old : Place) (n : ℕ) (done : List PlainValue) → Onto base old n done old done
onto_first base old n done = record { place = refl; within = within_like old old refl; same = λ b. refl }

module _ (base : js.Ground) (old : Place) (n : ℕ) (first : List PlainValue) (mid : Place) (done : List PlainValue) (h : Onto base old n first mid done) where
  onto_setting : setting_at base mid ≡ setting_at base old
  onto_setting = ap (setting_at base) h.place

  -- one more part gave its value
  pub onto_next : (node : PlainNode) → slice_get base.program.nodes n ≡ Some node → (part : ℕ) → slice_get (parts_of node.form) (length done) ≡ Some part → (x : PlainValue) (next : Place) → Gave base mid part x next → Onto base old n first next (done ++ x ∷ [])
  onto_next node at part get x next v =
      let g = setting_at base old in
      let o = slice_get base.program.nodes n in
      let go : PlainValue → State → Outcome = λ y now. parts_from g o (done ++ y ∷ []) now in
      record {
        place = v.place ∙ ap (λ (q : Place). record q { fuel = next.fuel }) h.place;
        within = within_trans old mid next h.within (gave_within base mid next part x v);
        same = λ b.
            ap (λ q. q >>= go) (sym (v.same b) ∙ ap (λ s. eval s part (state_at mid b)) onto_setting)
            ∙ parts_wait g o node at done part get go (λ y now. refl) (state_at mid b)
            ∙ h.same b;
      }

  -- what leads on from there leads on from the first place
  pub onto_leads : (new : Place) (r : Result Step AllocError) → IfOk r (λ step. Leads base mid (parts_from (setting_at base mid) (slice_get base.program.nodes n) done) new step) → IfOk r (λ step. Leads base old (parts_from (setting_at base old) (slice_get base.program.nodes n) first) new step)
  onto_leads new r w =
      let o = slice_get base.program.nodes n in
      on_ok r (λ step l. record {
        same = λ b. l.same b
            ∙ ap (λ q. plug (setting_at base q) q.stack (parts_from (setting_at base q) o done (state_at mid b))) h.place
            ∙ ap (plug (setting_at base old) old.stack) (h.same b);
        same_mode = l.same_mode ∙ ap (λ (q : Place). q.mode) h.place;
        same_budget = l.same_budget ∙ ap (λ (q : Place). q.budget) h.place;
        within = within_trans old mid new h.within l.within;
        stack_fits = l.stack_fits;
        step_fits = l.step_fits;
        rests = subst (λ fs. Rests step fs new.stack) (ap (λ (q : Place). q.stack) h.place) l.rests;
      }) w

  pub onto_fits : StackFits base.program old.stack → StackFits base.program mid.stack
  onto_fits fits = subst (λ (q : Place). StackFits base.program q.stack) (sym h.place) fits
