use Rattle.std.proofs.Common.{subst}
use Rattle.std.specs.Prelude.{IfOk}
use Rattle.js_meaning.specs.Calls.{calls}
use Rattle.js_meaning.specs.Meaning.{eval}
use Rattle.js_frames.specs.Places.{plain_ground, place_of, here}
use Rattle.js_frames.specs.inner.Leads.{Leads}
use Rattle.js_frames.proofs.SlotLemmas.{failed_never, value_answered}
use Rattle.js_frames.proofs.engine.Engine.call_field.Goals as goal

pub returns-in-Ok : goal.returns-in-Ok
returns-in-Ok c = λ x h.
    let g = here c.args.base.now c.args.self.now in
    subst (λ y. IfOk c.call.result (λ step. Leads (plain_ground c.args.base.now) (place_of c.args.self.now) (calls g (eval g) c.args.line y c.args.args) (place_of c.call.new.self) step))
    (value_answered x c.args.field c.in-Ok.function h c.in-Ok.is) c.call.ensures.goes

pub returns-in-Err : goal.returns-in-Err
returns-in-Err c = λ x h. failed_never x c.args.field c.in-Err.fault c.args.line c.failed.result _ h c.in-Err.is c.failed.ensures

pub call-requires : goal.call-requires
call-requires c = c.requires
