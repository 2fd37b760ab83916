use Rattle.std.proofs.Common.{sym, ap, ◌∙◌, subst}
use Rattle.js_value.specs.Value as v
use Rattle.js_value.specs.Views.{plain_value}
use Rattle.js_meaning.specs.Forms.{registers_thread}
use Rattle.js_frames.specs.Places.{plain_ground, place_of}
use Rattle.js_frames.specs.inner.Leads.{Leads}
use Rattle.js_frames.specs.Frames.{step_outcome}
use Rattle.js_frames.proofs.Steps.{means_ok, stays}
use Rattle.js_frames.proofs.EffectLemmas.{no_thread}
use Rattle.js_frames.proofs.engine.Engine.register_named.Goals as goal

pub returns-in-Function : goal.returns-in-Function
returns-in-Function c = means_ok (plain_ground c.args.base.now) _ _ _ _ c.act.result c.act.ensures
    (λ s. ap (λ n. registers_thread c.args.line (v.text n) (v.function c.in-Function.code c.in-Function.captured) s) c.in_ok-copied-in-Function.ensures ∙ ap (λ x. registers_thread c.args.line (v.text c.args.name.now) (plain_value x) s) (sym c.in-Function.is))

pub returns : goal.returns
unfolding step_outcome
returns c =
    let old = place_of c.args.self.now in
    subst (Leads (plain_ground c.args.base.now) old (registers_thread c.args.line (v.text c.args.name.now) (plain_value c.args.function)) old) (sym c.mistyped.ensures)
    (stays (plain_ground c.args.base.now) old _ _ c.requires tt (λ s. no_thread c.args.line c.args.name.now c.args.function s c.in_default.not-Function))

pub act-requires : goal.act-requires
act-requires c = c.requires
