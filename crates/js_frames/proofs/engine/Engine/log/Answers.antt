use Rattle.std.proofs.Common.{sym, ap, ◌∙◌, subst}
use Rattle.js_meaning.specs.Forms.{argument, log_text, logs}
use Rattle.js_frames.specs.Places.{plain_ground, place_of}
use Rattle.js_frames.specs.inner.Leads.{Leads}
use Rattle.js_frames.specs.Frames.{step_outcome}
use Rattle.js_frames.proofs.Steps.{means_ok, stays}
use Rattle.js_frames.proofs.engine.Engine.log.Goals as goal

pub returns : goal.returns
returns c = means_ok (plain_ground c.args.base.now) _ _ _ _ c.act.result c.act.ensures
    (λ s. ap (λ o. logs c.args.line o s) (sym c.in-Some.is ∙ c.in_ok-log_text.ensures) ∙ ap (λ x. logs c.args.line (log_text x) s) c.take-value.ensures.value)

pub returns-in-None : goal.returns-in-None
unfolding step_outcome
returns-in-None c =
    let old = place_of c.args.self.now in
    subst (Leads (plain_ground c.args.base.now) old (logs c.args.line (log_text (argument 0 c.args.args.now))) old) (sym c.mistyped.ensures)
    (stays (plain_ground c.args.base.now) old _ _ c.requires tt (λ s. ap (λ o. logs c.args.line o s) (sym c.in-None.is ∙ c.in_ok-log_text.ensures) ∙ ap (λ x. logs c.args.line (log_text x) s) c.take-value.ensures.value))

pub act-requires : goal.act-requires
act-requires c = c.requires
