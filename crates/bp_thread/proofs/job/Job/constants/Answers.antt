use Rattle.std.proofs.Common.{ap, sym, ◌∙◌}
use Rattle.js_data.proofs.Shared.{one_answer}
use Rattle.js_frames.specs.Runs.{constants_by}
use Rattle.js_meaning.specs.Bodies.{evaluation, constants_left}
use Rattle.bp_thread.specs.declared.job.JobParts.{JobParts}
use Rattle.bp_thread.specs.Jobs.{plain_job, machine_of}
use Rattle.bp_thread.proofs.job.Job.constants.Goals as goal

pub returns : goal.returns
returns c = λ base budget h top.
    c.constants.ensures ∙ ap constants_by (one_answer (machine_of c.args.self) _ _ (sym (c.into_machine.ensures ∙ ap (λ (p : JobParts). p.machine) c.into_inner.ensures) ∙ c.in-Some.is) h.stands.there) ∙ h.stands.constants c.requires
    ∙ ap (λ o. constants_left (evaluation base budget o (plain_job c.args.self).replies)) top
