use Rattle.std.proofs.Common.{sym, ap, ◌∙◌, subst}
use Rattle.js_value.specs.Value as v
use Rattle.js_value.specs.Views.{plain_value}
use Rattle.js_meaning.specs.Forms.{argument, enqueues_event}
use Rattle.js_frames.specs.Places.{plain_ground, place_of}
use Rattle.js_frames.specs.inner.Leads.{Leads}
use Rattle.js_frames.specs.Frames.{step_outcome}
use Rattle.js_frames.proofs.Steps.{means_ok, stays}
use Rattle.js_frames.proofs.EffectLemmas.{no_event}
use Rattle.js_frames.proofs.engine.Engine.enqueue.Goals as goal

pub returns-in-Event : goal.returns-in-Event
returns-in-Event c = means_ok (plain_ground c.args.base.now) _ _ _ _ c.act.result c.act.ensures
    (λ s. ap (λ e. enqueues_event c.args.line (v.event e) s) (c.in_ok-copied-in-Event.ensures ∙ c.deref.ensures) ∙ ap (λ x. enqueues_event c.args.line (plain_value x) s) (sym c.in-Event.is) ∙ ap (λ x. enqueues_event c.args.line x s) c.take.ensures.value)

pub returns : goal.returns
unfolding step_outcome
returns c =
    let old = place_of c.args.self.now in
    subst (Leads (plain_ground c.args.base.now) old (enqueues_event c.args.line (argument 0 c.args.args.now)) old) (sym c.mistyped.ensures)
    (stays (plain_ground c.args.base.now) old _ _ c.requires tt (λ s. no_event c.args.line c.take.result s c.in_default.not-Event ∙ ap (λ x. enqueues_event c.args.line x s) c.take.ensures.value))

pub act-requires : goal.act-requires
act-requires c = c.requires
