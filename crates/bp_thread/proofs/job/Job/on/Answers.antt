use Rattle.std.proofs.Common.{[], ap, option_map, subst, sym, ◌∙◌}
use Rattle.js_value.specs.Views.{plain_value}
use Rattle.js_frames.specs.Places.{plain_effects}
use Rattle.js_frames.specs.Runs.{Stands}
use Rattle.bp_thread.specs.Views.{plain_origin, plain_outcome}
use Rattle.bp_thread.specs.declared.job.JobParts.{JobParts}
use Rattle.bp_thread.proofs.Beginning.{begins}
use Rattle.bp_thread.proofs.job.Job.on.Goals as goal

pub returns-clause-fresh : goal.returns-clause-fresh
returns-clause-fresh c = λ base budget stands taken.
    let held = c.in_ok-parts.ensures.ok in
    begins base budget _ c.args.machine (ap (λ (p : JobParts). p.machine) held) (ap (λ (p : JobParts). p.replies) held ∙ c.new.ensures)
    (ap (λ (p : JobParts). plain_effects p.effects) held ∙ c.new-2.ensures) (ap (λ (p : JobParts). option_map plain_value p.handler) held)
    (ap (λ (p : JobParts). option_map plain_outcome p.outcome) held)
    (subst (λ o. Stands base budget o [] 0 [] c.args.machine) (sym (ap (λ (p : JobParts). plain_origin p.origin) held)) stands) taken
