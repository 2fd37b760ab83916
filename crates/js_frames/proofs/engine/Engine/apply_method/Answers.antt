use Rattle.std.proofs.Common.{refl, sym, subst}
use Rattle.js_value.specs.Views.{plain_value}
use Rattle.js_ops.specs.Methods.{method_named}
use Rattle.js_meaning.specs.Calls.{applies}
use Rattle.js_frames.specs.Places.{plain_ground, place_of}
use Rattle.js_frames.specs.inner.Leads.{Leads}
use Rattle.js_frames.proofs.Steps.{becomes}
use Rattle.js_frames.proofs.engine.Engine.apply_method.Goals as goal

pub returns : goal.returns
returns c =
    let old = place_of c.args.self.now in
    let o = applies c.args.line (method_named c.args.word.now) (plain_value c.args.on.now) c.args.args in
    subst (λ q. Leads (plain_ground c.args.base.now) old o q c.in_ok-step.step) (sym c.done_with.ensures)
    (becomes (plain_ground c.args.base.now) old o _ c.in_ok-step.step c.requires c.in_ok-step.ensures (λ s. refl))
