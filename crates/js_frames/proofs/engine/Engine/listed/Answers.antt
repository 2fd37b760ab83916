use Rattle.std.proofs.Common.{sym, ap, subst}
use Rattle.js_value.specs.Views.{plain_value}
use Rattle.js_meaning.specs.Statements.{each_of}
use Rattle.js_meaning.specs.Meaning.{eval}
use Rattle.js_frames.specs.Places.{plain_ground, place_of, here}
use Rattle.js_frames.specs.inner.Leads.{Leads}
use Rattle.js_frames.specs.Frames.{step_outcome}
use Rattle.js_frames.proofs.Steps.{means_ok, stays}
use Rattle.js_frames.proofs.LoopLemmas.{no_list}
use Rattle.js_frames.proofs.engine.Engine.listed.Goals as goal

pub returns-in-List : goal.returns-in-List
returns-in-List c =
    let g = here c.args.base.now c.args.self.now in
    means_ok (plain_ground c.args.base.now) _ _ _ _ c.each.result c.each.ensures (λ s. ap (λ v. each_of (eval g) c.args.line c.args.slot c.args.body (plain_value v) s) (sym c.in-List.is))

pub returns : goal.returns
unfolding step_outcome
returns c =
    let g = here c.args.base.now c.args.self.now in
    let old = place_of c.args.self.now in
    subst (Leads (plain_ground c.args.base.now) old (each_of (eval g) c.args.line c.args.slot c.args.body (plain_value c.args.value)) old) (sym c.mistyped.ensures)
    (stays (plain_ground c.args.base.now) old _ _ c.requires.fits tt (λ s. no_list (eval g) c.args.line c.args.slot c.args.body c.args.value s c.in_default.not-List))
