-- An arbiter before and after a call, and jobs that it lends.
use Rattle.std.proofs.Common.{◌≡◌, ℕ, ◌+◌, ◌≤◌, List, ◌++◌, length, ap, sym, subst, ◌∙◌, length-append, arith, Some, Ok, Err}
use Rattle.std.specs.Prelude.{Result, OnOk}
use Rattle.js_value.specs.Value.{PlainSet}
use Rattle.js_meaning.specs.State.{Ground}
use Rattle.js_meaning.specs.Bodies.{Origin}
use Rattle.bp_log.specs.Options.{PlainOptions}
use Rattle.bp_log.specs.declared.record.Record.{Record}
use Rattle.bp_run.specs.Bodies.{Code}
use Rattle.bp_run.specs.Configuration.{Configuration}
use Rattle.bp_run.specs.Story.{next, story}
use Rattle.bp_thread.specs.declared.job.Job.{Job}
use Rattle.bp_thread.specs.Carried.{AreCarriedOut}
use Rattle.bp_floor.specs.declared.phase.Phase.{Phase}
use Rattle.bp_code.specs.Code.{sealed_code_of as code_of}
use Rattle.bp_floor.specs.Floors.{PlainFloor}
use Rattle.bp_arbiter.specs.Arbiters.{PlainArbiter, code_in, options_in, stand_in, Recounts, coming}
use Rattle.bp_arbiter.specs.Lend.{AllCanRun}
use Rattle.bp_arbiter.specs.Seal.{ending}

pub same_code : (a b : PlainArbiter) → b.floor.base.program ≡ a.floor.base.program → options_in b ≡ options_in a → code_in b ≡ code_in a
same_code a b p q = λ i. code_of (p i) (q i)

pub recounts_at : (l : Code Origin PlainSet) (o : PlainOptions) (a : PlainArbiter) (c : Configuration Origin) → code_in a ≡ l → options_in a ≡ o → Recounts a c → story l o a.records ≡ Some c
recounts_at l o a c e f h = subst (λ (x : PlainOptions). story l x a.records ≡ Some c) f (subst (λ (x : Code Origin PlainSet). story x (options_in a) a.records ≡ Some c) e h)

pub recounts_in : (l : Code Origin PlainSet) (o : PlainOptions) (a : PlainArbiter) (c : Configuration Origin) → code_in a ≡ l → options_in a ≡ o → story l o a.records ≡ Some c → Recounts a c
recounts_in l o a c e f h = subst (λ (x : PlainOptions). story (code_in a) x a.records ≡ Some c) (sym f) (subst (λ (x : Code Origin PlainSet). story x o a.records ≡ Some c) (sym e) h)

pub coming_at : (l : Code Origin PlainSet) (o : PlainOptions) (a : PlainArbiter) (c : Configuration Origin) → code_in a ≡ l → options_in a ≡ o → coming a c ≡ next l o c
coming_at l o a c e f = λ i. next (e i) (f i) c

-- no record is lost
pub turn_records : {E : Type 0} (r : Result Phase E) (old mid new : PlainArbiter) → mid.records ≡ old.records → OnOk r (new.records ≡ mid.records ++ ending (stand_in new).verdict) →
    OnOk r (length old.records ≤ length new.records)
turn_records (Ok f) old mid new e h =
    let n : length new.records ≡ length old.records + length (ending (stand_in new).verdict) =
    ap (λ (es : List Record). length es) (h ∙ ap (λ (es : List Record). es ++ ending (stand_in new).verdict) e) ∙ length-append old.records (ending (stand_in new).verdict) in
    omega (arith, n)
turn_records (Err x) old mid new e h = tt

-- a budget that was read of the floor is that of the options
pub budget_of : (o p : PlainOptions) (f g : PlainFloor) (n : ℕ) → n ≡ o.budget → o ≡ g.options → g ≡ f → p ≡ f.options → n ≡ p.budget
budget_of o p f g n e h k q = e ∙ ap (λ (x : PlainOptions). x.budget) (h ∙ ap (λ (x : PlainFloor). x.options) k ∙ sym q)

-- the lent jobs are those that are to be carried out
pub carried_at : (base ground : Ground) (budget n : ℕ) (jobs after : List Job) → ground ≡ base → n ≡ budget → AreCarriedOut ground n jobs after → AreCarriedOut base budget jobs after
carried_at base ground budget n jobs after e f h = subst (λ (x : ℕ). AreCarriedOut base x jobs after) f (subst (λ (g : Ground). AreCarriedOut g n jobs after) e h)

pub can_run_here : (base ground : Ground) (budget n : ℕ) (jobs : List Job) → ground ≡ base → n ≡ budget → AllCanRun base budget jobs → AllCanRun ground n jobs
can_run_here base ground budget n jobs e f h = subst (λ (x : ℕ). AllCanRun ground x jobs) (sym f) (subst (λ (g : Ground). AllCanRun g budget jobs) (sym e) h)
