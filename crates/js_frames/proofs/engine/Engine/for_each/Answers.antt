use Rattle.std.proofs.Common.{sym, subst}
use Rattle.std.specs.Prelude.{IfOk}
use Rattle.js_meaning.specs.Calls.{for_each_call}
use Rattle.js_meaning.specs.Meaning.{eval}
use Rattle.js_frames.specs.Places.{Place, plain_ground, place_of, setting_at}
use Rattle.js_frames.specs.inner.Leads.{Leads}
use Rattle.js_frames.specs.Fits.{StackFits}
use Rattle.js_frames.specs.Frames.{step_outcome, walk_from}
use Rattle.js_frames.proofs.Steps.{means_ok, stays}
use Rattle.js_frames.proofs.CallLemmas.{walk_begins, no_walk}
use Rattle.js_frames.proofs.engine.Engine.for_each.Goals as goal

pub returns-in-Function : goal.returns-in-Function
returns-in-Function c =
    let base = plain_ground c.args.base.now in
    let old = place_of c.args.self.now in
    let g = setting_at base old in
    means_ok base old _ _ _ c.walk.result
    (subst (λ q. IfOk c.walk.result (λ step. Leads base q (walk_from (setting_at base q) (record { code = c.in-Function.code; captured = c.in-Function.captured; items = c.args.items; index = 0; line = c.args.line })) (place_of c.walk.new.self) step)) c.done_with.ensures c.walk.ensures)
    (λ s. walk_begins g (eval g) c.args.line c.args.items c.args.args c.in-Function.code c.in-Function.captured c.take-function.result s c.in-Function.is c.take-function.ensures.value)

pub returns-in_default : goal.returns-in_default
unfolding step_outcome
returns-in_default c =
    let base = plain_ground c.args.base.now in
    let old = place_of c.args.self.now in
    let g = setting_at base old in
    let o = for_each_call g (eval g) c.args.line c.args.items c.args.args in
    subst (λ q. Leads base old o q c.mistyped.result) (sym c.done_with.ensures)
    (subst (Leads base old o old) (sym c.mistyped.ensures)
    (stays base old _ _ c.requires tt (λ s. no_walk g (eval g) c.args.line c.args.items c.args.args c.take-function.result s c.take-function.ensures.value c.in_default.not-Function)))

pub walk-requires : goal.walk-requires
walk-requires c =
    let program = let b = c.args.base.now in b.program in
    subst (λ (q : Place). StackFits program q.stack) (sym c.done_with.ensures) c.requires
