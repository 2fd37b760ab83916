use Rattle.std.proofs.Common.{refl, sym, ap, subst}
use Rattle.js_value.specs.Views.{plain_value}
use Rattle.js_meaning.specs.Calls.{calls}
use Rattle.js_meaning.specs.Meaning.{eval}
use Rattle.js_frames.specs.Places.{plain_ground, place_of, here}
use Rattle.js_frames.specs.Frames.{step_outcome}
use Rattle.js_frames.specs.inner.Leads.{Leads}
use Rattle.js_frames.proofs.Steps.{means_ok, stays}
use Rattle.js_frames.proofs.CallLemmas.{no_call}
use Rattle.js_frames.proofs.engine.Engine.call.Goals as goal

pub returns-in-Function : goal.returns-in-Function
returns-in-Function c =
    let g = here c.args.base.now c.args.self.now in
    record {
      goes = means_ok (plain_ground c.args.base.now) _ _ _ _ c.call_function.result c.call_function.ensures.goes (λ s. ap (λ f. calls g (eval g) c.args.line (plain_value f) c.args.args s) (sym c.in-Function.is));
      effects = c.call_function.ensures.effects;
    }

pub returns : goal.returns
unfolding step_outcome
returns c =
    let g = here c.args.base.now c.args.self.now in
    let old = place_of c.args.self.now in
    record {
      goes = subst (Leads (plain_ground c.args.base.now) old (calls g (eval g) c.args.line (plain_value c.args.function) c.args.args) old) (sym c.mistyped.ensures)
          (stays (plain_ground c.args.base.now) old _ _ c.requires tt (λ s. no_call g (eval g) c.args.line c.args.function c.args.args s c.in_default.not-Function));
      effects = refl;
    }
