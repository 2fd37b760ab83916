-- Slots that are written.
use Rattle.std.proofs.Common.{◌≡◌, ℕ, List, Option, Some, None, Result, Ok, Err, refl, sym, ap, ◌∙◌, subst}
use Rattle.std.specs.Prelude.{slice_set, IfOk}
use Rattle.std.specs.declared.alloc.AllocError.{AllocError}
use Rattle.js_data.specs.declared.fault.Fault.{Fault}
use Rattle.js_data.specs.declared.fault.Fault.TheVariants as fault
use Rattle.js_value.specs.Value.{PlainValue}
use Rattle.js_value.specs.Views.{plain_value}
use Rattle.js_value.specs.declared.value.Value.{Value}
use Rattle.js_ops.specs.Made.{Answer}
use Rattle.js_ops.specs.Answers.{AnswersAs}
use Rattle.js_ops.specs.declared.op_fault.OpFault.{OpFault}
use Rattle.js_ops.specs.declared.op_fault.OpFault.TheVariants as op_fault
use Rattle.js_meaning.specs.State as js
use Rattle.js_meaning.specs.State.{State, Outcome, gives}
use Rattle.js_meaning.specs.Variables.{if_declared, in_slot}
use Rattle.js_meaning.specs.Expressions.{writes}
use Rattle.js_frames.specs.declared.step.Step.{Step}
use Rattle.js_frames.specs.declared.step.Step.TheVariants.{Give, Fail}
use Rattle.js_frames.specs.declared.step.Completion.TheVariants.{Normal}
use Rattle.js_frames.specs.Places.{Place, state_at}
use Rattle.js_frames.specs.Frames.{writes_behind}
use Rattle.js_frames.specs.Fits.{StackFits}
use Rattle.js_frames.specs.inner.Leads.{Leads, FailsAs}
use Rattle.js_frames.proofs.Steps.{completes_at, fails_at, moves, on_ok}

module _ (base : js.Ground) (old : Place) (k line : ℕ) (fits : StackFits base.program old.stack) where
  -- the value is in the slot
  pub written : (slots : List (Option PlainValue)) (value copied : Value) (a : Answer) → AnswersAs a (Ok value) → plain_value copied ≡ plain_value value → slots ≡ slice_set old.slots k (Some (plain_value copied)) → Leads base old (writes line k a) (record old { slots = slots }) (Give (Normal value))
  written slots value copied a h c e =
      moves base old (record old { slots = slots }) (record old { slots = slots }) (writes line k a) (gives (plain_value value)) (Give (Normal value)) refl refl refl refl
      (λ b. ap (λ ss. gives (plain_value value) (record (state_at old b) { slots = ss })) (e ∙ ap (λ x. slice_set old.slots k (Some x)) c) ∙ ap (λ q. writes line k q (state_at old b)) (sym h))
      (completes_at base (record old { slots = slots }) (gives (plain_value value)) (Normal value) fits (λ b. refl))

  pub written_behind : (slots : List (Option PlainValue)) (value before : Value) (a : Answer) → AnswersAs a (Ok value) → slots ≡ slice_set old.slots k (Some (plain_value value)) → Leads base old (writes_behind line k (plain_value before) a) (record old { slots = slots }) (Give (Normal before))
  written_behind slots value before a h e =
      moves base old (record old { slots = slots }) (record old { slots = slots }) (writes_behind line k (plain_value before) a) (gives (plain_value before)) (Give (Normal before)) refl refl refl refl
      (λ b. ap (λ ss. gives (plain_value before) (record (state_at old b) { slots = ss })) e ∙ ap (λ q. writes_behind line k (plain_value before) q (state_at old b)) (sym h))
      (completes_at base (record old { slots = slots }) (gives (plain_value before)) (Normal before) fits (λ b. refl))

  -- a variable that is not declared
  pub early : (go : PlainValue → State → Outcome) → None ≡ in_slot k old.slots → Leads base old (λ s. if_declared line (in_slot k s.slots) go s) old (Fail fault.Early line)
  early go e = fails_at base old (λ s. if_declared line (in_slot k s.slots) go s) fault.Early line fits (λ b. ap (λ o. if_declared line o go (state_at old b)) e)

  -- one that is
  pub declared_goes : (go : PlainValue → State → Outcome) (x : PlainValue) (new : Place) (step : Step) → Some x ≡ in_slot k old.slots → Leads base old (go x) new step → Leads base old (λ s. if_declared line (in_slot k s.slots) go s) new step
  declared_goes go x new step e l = moves base old old new (λ s. if_declared line (in_slot k s.slots) go s) (go x) step refl refl refl refl (λ b. ap (λ o. if_declared line o go (state_at old b)) e) l

-- a fault of an operator leads to its outcome
pub failed_goes : (base : js.Ground) (old : Place) (o : Answer → State → Outcome) (a : Answer) (fault : OpFault) (line : ℕ) (r : Result Step AllocError) → StackFits base.program old.stack → AnswersAs a (Err fault) → FailsAs fault line r → ((f : Fault) (s : State) → js.breaks f line s ≡ o (Err f) s) → IfOk r (λ step. Leads base old (o a) old step)
failed_goes base old o a (op_fault.Fault f) line r fits h w same =
    on_ok r (λ step e. subst (Leads base old (o a) old) (sym e) (fails_at base old (o a) f line fits (λ b. same f (state_at old b) ∙ ap (λ q. o q (state_at old b)) (sym h)))) w
failed_goes base old o a op_fault.Memory line r fits h w same = on_ok r (λ step e. absurd e) w

-- a value that was answered
pub value_answered : (x : PlainValue) (r : Result Value OpFault) (value : Value) → AnswersAs (Ok x) r → r ≡ Ok value → plain_value value ≡ x
value_answered x r value h e = let k : AnswersAs (Ok x) (Ok value) = subst (AnswersAs (Ok x)) e h in cc

-- what answers a value fails for lack of memory alone
pub failed_never : (x : PlainValue) (r : Result Value OpFault) (fault : OpFault) (line : ℕ) (q : Result Step AllocError) (P : Step → Type 0) → AnswersAs (Ok x) r → r ≡ Err fault → FailsAs fault line q → IfOk q P
failed_never x r fault line q P h e w = by_fault fault (subst (AnswersAs (Ok x)) e h) w
  where
    by_fault : (f : OpFault) → AnswersAs (Ok x) (Err f) → FailsAs f line q → IfOk q P
    by_fault (op_fault.Fault f) k v = cc
    by_fault op_fault.Memory k v = on_ok q (λ step i. absurd i) v
