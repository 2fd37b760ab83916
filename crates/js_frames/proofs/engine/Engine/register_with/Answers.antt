use Rattle.std.proofs.Common.{sym, ap, ◌∙◌, subst}
use Rattle.js_value.specs.Value as v
use Rattle.js_value.specs.Views.{plain_value}
use Rattle.js_meaning.specs.Forms.{registers_thread}
use Rattle.js_frames.specs.Places.{plain_ground, place_of}
use Rattle.js_frames.specs.inner.Leads.{Leads}
use Rattle.js_frames.specs.Frames.{step_outcome}
use Rattle.js_frames.proofs.Steps.{means_ok, stays}
use Rattle.js_frames.proofs.EffectLemmas.{no_name}
use Rattle.js_frames.proofs.engine.Engine.register_with.Goals as goal

pub returns-in-Text : goal.returns-in-Text
returns-in-Text c = means_ok (plain_ground c.args.base.now) _ _ _ _ c.register_named.result c.register_named.ensures
    (λ s. ap (λ n. registers_thread c.args.line (v.text n) (plain_value c.args.function) s) c.deref.ensures ∙ ap (λ x. registers_thread c.args.line (plain_value x) (plain_value c.args.function) s) (sym c.in-Text.is))

pub register_named-requires : goal.register_named-requires
register_named-requires c = c.requires

pub returns-in_default : goal.returns-in_default
unfolding step_outcome
returns-in_default c =
    let old = place_of c.args.self.now in
    subst (Leads (plain_ground c.args.base.now) old (registers_thread c.args.line (plain_value c.args.name.now) (plain_value c.args.function)) old) (sym c.mistyped.ensures)
    (stays (plain_ground c.args.base.now) old _ _ c.requires tt (λ s. no_name c.args.line c.args.name.now (plain_value c.args.function) s c.in_default.not-Text))
