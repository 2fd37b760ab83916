-- Steps that no node begins by.
use Rattle.std.proofs.Common.{◌≡◌, ℕ, List, Result, Ok, Err, sym, ap, ◌∙◌, subst}
use Rattle.std.specs.Prelude.{IfOk}
use Rattle.std.specs.declared.alloc.AllocError.{AllocError}
use Rattle.js_data.specs.declared.fault.Fault.{Fault}
use Rattle.js_value.specs.Views.{plain_value}
use Rattle.js_value.specs.declared.value.Value.{Value}
use Rattle.js_meaning.specs.State.{State, Setting, Outcome, violated, left_of, gives, breaks, answered}
use Rattle.js_meaning.specs.Forms.{asks}
use Rattle.js_frames.specs.declared.step.Completion.TheVariants.{Normal}
use Rattle.js_frames.specs.declared.step.Step.{Step}
use Rattle.js_frames.specs.declared.step.Step.TheVariants.{Give, Ask, Fail, Violate}
use Rattle.js_frames.specs.Frames.{step_outcome}
use Rattle.js_ops.specs.Made.{Answer}
use Rattle.js_ops.specs.Answers.{AnswersAs}
use Rattle.js_ops.specs.declared.op_fault.OpFault.{OpFault}
use Rattle.js_ops.specs.declared.op_fault.OpFault.TheVariants as op_fault
use Rattle.js_frames.specs.inner.Leads.{Becomes, FailsAs}

pub gives_so : (o : Setting → State → Outcome) (step : Step) (x : Value) → step ≡ Give (Normal x) → ((g : Setting) (s : State) → gives (plain_value x) s ≡ o g s) → Becomes o step
unfolding step_outcome
gives_so o step x e h = subst (Becomes o) (sym e) (record { same = h; fits = λ program. tt })

pub fails_so : (o : Setting → State → Outcome) (step : Step) (f : Fault) (line : ℕ) → step ≡ Fail f line → ((g : Setting) (s : State) → breaks f line s ≡ o g s) → Becomes o step
unfolding step_outcome
fails_so o step f line e h = subst (Becomes o) (sym e) (record { same = h; fits = λ program. tt })

pub asks_so : (o : Setting → State → Outcome) (x y : Value) (line : ℕ) → ((g : Setting) (s : State) → asks g.budget line (plain_value x) (plain_value y) s.replies s ≡ o g s) → Becomes o (Ask x y line)
unfolding step_outcome
asks_so o x y line h = record { same = h; fits = λ program. tt }

pub violates_so : (o : Setting → State → Outcome) (text : List ℕ) → ((g : Setting) (s : State) → violated text (left_of s) ≡ o g s) → Becomes o (Violate text)
unfolding step_outcome
violates_so o text h = record { same = h; fits = λ program. tt }

pub becomes_as : (o q : Setting → State → Outcome) (r : Result Step AllocError) → ((g : Setting) (s : State) → q g s ≡ o g s) → IfOk r (Becomes q) → IfOk r (Becomes o)
becomes_as o q (Ok step) h b = record { same = λ g s. b.same g s ∙ h g s; fits = b.fits }
becomes_as o q (Err e) h b = tt

-- the same answer, said otherwise
pub ok_means : {X : Type 0} (r : Result X AllocError) (a b : X) → a ≡ b → IfOk r (λ x. x ≡ a) → IfOk r (λ x. x ≡ b)
ok_means (Ok x) a b e h = h ∙ e
ok_means (Err x) a b e h = tt

-- a fault of an operator
pub fails_as : (a : Answer) (fault : OpFault) (line : ℕ) (r : Result Step AllocError) → AnswersAs a (Err fault) → FailsAs fault line r → IfOk r (Becomes (λ g. answered line a))
fails_as a (op_fault.Fault f) line (Ok step) h e = fails_so _ step f line e (λ g s. ap (λ q. answered line q s) (sym h))
fails_as a (op_fault.Fault f) line (Err x) h e = tt
fails_as a op_fault.Memory line (Ok step) h e = absurd e
fails_as a op_fault.Memory line (Err x) h e = tt
