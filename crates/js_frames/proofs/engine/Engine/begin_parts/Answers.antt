use Rattle.std.proofs.Common.{sym, ap, subst}
use Rattle.std.specs.Prelude.{slice_get, IfOk}
use Rattle.js_frames.specs.Places.{Place, plain_ground, place_of, setting_at, here}
use Rattle.js_frames.specs.Frames.{parts_from}
use Rattle.js_frames.specs.Fits.{StackFits}
use Rattle.js_frames.specs.inner.Leads.{Leads}
use Rattle.js_frames.proofs.Steps.{means_ok}
use Rattle.js_frames.proofs.engine.Engine.begin_parts.Goals as goal

pub returns : goal.returns
returns c =
    let base = plain_ground c.args.base.now in
    let node = slice_get (let b = c.args.base.now in let p = b.program in p.nodes) c.args.number in
    means_ok base _ _ _ _ c.go_on_parts.result
    (subst (λ q. IfOk c.go_on_parts.result (λ step. Leads base q (parts_from (setting_at base q) node c.no_values-none.result) (place_of c.go_on_parts.new.self) step)) c.no_values-none.ensures.same c.go_on_parts.ensures)
    (λ s. ap (λ vs. parts_from (here c.args.base.now c.args.self.now) node vs s) c.no_values-none.ensures.none)

pub go_on_parts-requires : goal.go_on_parts-requires
go_on_parts-requires c = record {
  number = c.requires.number;
  form = c.requires.form;
  fits = subst (λ (q : Place). StackFits (let b = c.args.base.now in b.program) q.stack) (sym c.no_values-none.ensures.same) c.requires.fits;
}
