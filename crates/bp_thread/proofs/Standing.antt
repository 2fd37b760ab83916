-- What a job stands for, over plain variables.
use Rattle.std.proofs.Common.{◌≡◌, ℕ, List, true, false, Option, Some, None, IsSome, IsTrue, ◌↔◌, fold, refl, sym, ap, ◌∙◌, []}
use Rattle.std.proofs.lemmas.List.{append_cancel_left}
use Rattle.js_value.specs.Value.{PlainValue, PlainSet}
use Rattle.js_meaning.specs.State as js
use Rattle.js_meaning.specs.State.{Ground, Effect, effects_of}
use Rattle.js_meaning.specs.Bodies.{evaluation}
use Rattle.bp_run.specs.Bodies as run
use Rattle.bp_meaning.specs.After.{outcome_of, handler_after}
use Rattle.bp_thread.specs.declared.job.Job.{Job}
use Rattle.bp_thread.specs.Jobs.{PlainJob, plain_job, machine_of, IsOutcome, IsWhole, StandsAt}
use Rattle.bp_thread.specs.Carried.{carried}

pub false_true : false ≡ true → ⊥
false_true h = cc

-- a slice that is not done leaves no outcome
pub still_open : {A : Type 0} (o : Option A) → (IsTrue false ↔ IsSome o) → o ≡ None
still_open None h = refl
still_open (Some x) h = absurd (false_true (h.1 refl))

-- an outcome that is there is that of the evaluation, and all of its effects were made
pub outcome_there : (e : js.Outcome) (made : List Effect) (o : Option (run.Outcome PlainSet)) → IsOutcome e made o → IsSome o → (o ≡ Some (outcome_of e)) × (effects_of e ≡ made)
outcome_there e made None h s = absurd (false_true s)
outcome_there e made (Some out) h s = (ap Some h.0, h.1)

renewed : (p : PlainJob) (es : List Effect) (h : Option PlainValue) (o : Option (run.Outcome PlainSet)) → p.effects ≡ es → p.handler ≡ h → p.outcome ≡ o → p ≡ record p { effects = es; handler = h; outcome = o }
renewed p es h o a b c =
    ap (λ x. record p { effects = x }) a ∙ ap (λ x. record p { effects = es; handler = x }) b ∙ ap (λ x. record p { effects = es; handler = h; outcome = x }) c

-- a whole job with its outcome is the job carried to its outcome
pub whole_done : (base : Ground) (budget : ℕ) (j : Job) → IsWhole base budget j → IsSome (plain_job j).outcome → plain_job j ≡ carried base budget (plain_job j)
whole_done base budget j w s =
    let e = evaluation base budget (plain_job j).origin (plain_job j).replies in
    let there = outcome_there e _ _ (w.stands).outcome s in
    renewed (plain_job j) _ _ _
    (append_cancel_left w.before _ _ (sym there.1 ∙ w.since))
    ((w.stands).handler ∙ ap (fold handler_after None) (sym there.1))
    there.0

-- a job without some of its effects stands for the same
pub stands_without : (base : Ground) (budget begun : ℕ) (made : List Effect) (old new : Job) → machine_of new ≡ machine_of old → plain_job new ≡ record (plain_job old) { effects = [] } →
    StandsAt base budget begun made old → StandsAt base budget begun made new
stands_without base budget begun made old new machine plain at =
    let origin = ap (λ (p : PlainJob). p.origin) plain in
    let replies = ap (λ (p : PlainJob). p.replies) plain in
    let outcome = ap (λ (p : PlainJob). p.outcome) plain in
    record {
      machine = at.machine;
      there = machine ∙ at.there;
      stands = rw (origin, replies) at.stands;
      all_taken = at.all_taken;
      handler = ap (λ (p : PlainJob). p.handler) plain ∙ at.handler;
      outcome = rw (origin, replies, outcome) at.outcome;
      line = rw (origin, replies, outcome) at.line;
      constants = rw (origin, replies, outcome) at.constants;
    }
