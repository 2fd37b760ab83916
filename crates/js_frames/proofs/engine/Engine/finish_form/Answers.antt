use Rattle.std.proofs.Common.{sym, subst}
use Rattle.js_meaning.specs.Forms.{takes_effect}
use Rattle.js_frames.specs.Places.{plain_ground, place_of}
use Rattle.js_frames.specs.inner.Leads.{Leads}
use Rattle.js_frames.proofs.engine.Engine.finish_form.Goals as goal

pub returns : goal.returns
returns c =
    let old = place_of c.args.self.now in
    subst (λ q. Leads (plain_ground c.args.base.now) old (takes_effect old.budget c.args.line c.args.form c.args.args) q c.in_ok-step.step) (sym c.done_with.ensures) c.in_ok-step.ensures

pub take_effect-requires : goal.take_effect-requires
take_effect-requires c = c.requires
