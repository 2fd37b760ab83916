use Rattle.std.proofs.Common.{[], ◌∷◌, ◌++◌, refl, ap, subst, sym, ◌∙◌, option_map}
use Rattle.std.specs.Arc.{arc_value}
use Rattle.js_data.specs.Event.{PlainEvent}
use Rattle.js_value.specs.Views.{plain_value}
use Rattle.js_frames.specs.Places.{plain_effects}
use Rattle.js_frames.specs.Runs.{Stands}
use Rattle.bp_thread.specs.Views.{plain_origin}
use Rattle.bp_thread.specs.declared.job.JobParts.{JobParts}
use Rattle.bp_thread.specs.Jobs.{plain_job}
use Rattle.bp_thread.proofs.Giving.{given, same_job}
use Rattle.bp_thread.proofs.job.Job.give.Goals as goal

pub returns-in_err-push-clause-err : goal.returns-in_err-push-clause-err
returns-in_err-push-clause-err c =
    same_job c.from_residual-in_err-push.result c.args.self.now c.deref_mut-parts.result.now c.push.new.self _ c.in_err-push.ensures.err c.deref_mut-parts.ensures.value

pub returns-in-Some-clause-fresh : goal.returns-in-Some-clause-fresh
returns-in-Some-clause-fresh c = λ base budget h.
    let old = plain_job c.args.self.now in
    let d = c.deref_mut-parts.ensures.value in
    given base budget c.args.self.now _ c.in-Some.machine c.resume.new.self (arc_value c.args.event.now) (sym (ap (λ (p : JobParts). p.machine) d) ∙ c.in-Some.is) refl (ap (λ (p : JobParts). plain_origin p.origin) d)
    (c.in_ok-push.ensures.ok ∙ ap (λ (p : JobParts). p.replies ++ arc_value c.in_ok-kept.kept ∷ []) d ∙ ap (λ (x : PlainEvent). old.replies ++ x ∷ []) c.in_ok-kept.ensures.cases)
    (ap (λ (p : JobParts). option_map plain_value p.handler) d) (ap (λ (p : JobParts). plain_effects p.effects) d ∙ c.requires.taken) refl c.requires.stopped
    (λ begun taken s. subst (λ (x : PlainEvent). Stands base budget old.origin (old.replies ++ x ∷ []) 0 taken c.resume.new.self) c.in_ok-answer.ensures.cases
    (c.resume.ensures.stands base budget old.origin old.replies begun taken s))
    c.resume.ensures.effects h
