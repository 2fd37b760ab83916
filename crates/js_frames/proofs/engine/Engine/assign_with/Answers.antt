use Rattle.std.proofs.Common.{ap}
use Rattle.js_value.specs.Views.{plain_value}
use Rattle.js_ops.specs.Operators.{value_of}
use Rattle.js_meaning.specs.State.{◌>>=◌}
use Rattle.js_meaning.specs.Meaning.{eval}
use Rattle.js_meaning.specs.Expressions.{writes}
use Rattle.js_frames.specs.Places.{plain_ground, place_of, here}
use Rattle.js_frames.specs.Frames.{rest, resume}
use Rattle.js_frames.proofs.Steps.{wait_leads, on_ok}
use Rattle.js_frames.proofs.SlotLemmas.{early, declared_goes}
use Rattle.js_frames.proofs.engine.Engine.assign_with.Goals as goal

pub returns-in_default : goal.returns-in_default
returns-in_default c = early (plain_ground c.args.base.now) (place_of c.args.self.now) c.args.slot c.args.line c.requires.fits _ c.in_default.ensures

pub returns : goal.returns
unfolding resume rest
returns c =
    let g = here c.args.base.now c.args.self.now in
    let base = plain_ground c.args.base.now in
    let old = place_of c.args.self.now in
    on_ok c.wait.result (λ step l. declared_goes base old c.args.slot c.args.line c.requires.fits (λ v now. eval g c.args.part now >>= λ w. writes c.args.line c.args.slot (value_of c.args.op v w)) (plain_value c.in-Some.held.now) _ step c.in-Some.ensures l)
    (wait_leads base old _ _ c.wait.result _ _ c.requires.fits c.wait.ensures tt c.requires.part (λ s. ap (λ y. eval g c.args.part s >>= λ w. writes c.args.line c.args.slot (value_of c.args.op y w)) c.in_ok-old.ensures))
