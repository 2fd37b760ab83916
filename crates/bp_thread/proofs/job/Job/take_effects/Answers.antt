use Rattle.std.proofs.Common.{[], List, ap, ◌∙◌}
use Rattle.js_meaning.specs.State.{Effect}
use Rattle.js_frames.specs.Places.{plain_effects}
use Rattle.bp_thread.specs.declared.job.JobParts.{JobParts}
use Rattle.bp_thread.specs.Jobs.{PlainJob, plain_job}
use Rattle.bp_thread.proofs.Giving.{job_with}
use Rattle.bp_thread.proofs.Standing.{stands_without, whole_done}
use Rattle.bp_thread.proofs.job.Job.take_effects.Goals as goal

pub returns-clause-stands : goal.returns-clause-stands
returns-clause-stands c = λ base budget begun made h.
    let d = c.deref_mut-parts.ensures.value in
    stands_without base budget begun made c.args.self.now _ (ap (λ (p : JobParts). p.machine) d)
    (ap (λ (es : List Effect). record (plain_job (job_with c.args.self.now c.deref_mut-parts.result.now)) { effects = es }) (ap plain_effects c.replace.ensures.after ∙ c.new.ensures)
    ∙ ap (λ (p : JobParts). record (plain_job (job_with c.args.self.now p)) { effects = [] }) d) h

pub returns-clause-exact : goal.returns-clause-exact
returns-clause-exact c = λ base budget w s.
    ap plain_effects c.replace.ensures.value ∙ ap (λ (p : JobParts). plain_effects p.effects) c.deref_mut-parts.ensures.value
    ∙ ap (λ (p : PlainJob). p.effects) (whole_done base budget c.args.self.now w s)
