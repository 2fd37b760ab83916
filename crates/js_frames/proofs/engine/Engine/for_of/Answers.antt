use Rattle.std.proofs.Common.{refl, ap}
use Rattle.js_meaning.specs.State.{◌>>=◌}
use Rattle.js_meaning.specs.Meaning.{eval}
use Rattle.js_frames.specs.declared.frame.Part.TheVariants.{Listed}
use Rattle.js_frames.specs.Places.{plain_ground, place_of, here, state_at}
use Rattle.js_frames.specs.Frames.{rest, resume}
use Rattle.js_frames.proofs.Steps.{wait_leads, moves_ok}
use Rattle.js_frames.proofs.engine.Engine.for_of.Goals as goal

pub returns : goal.returns
unfolding resume rest
returns c =
    let g = here c.args.base.now c.args.self.now in
    let old = place_of c.args.self.now in
    let mid = record old { slots = c.set.new.self } in
    moves_ok (plain_ground c.args.base.now) old mid _ _ (λ s. eval g c.args.list s >>= rest g (Listed c.args.slot c.args.body c.args.line)) c.wait.result refl refl refl refl
    (λ b. ap (λ ss. eval g c.args.list (record (state_at old b) { slots = ss }) >>= rest g (Listed c.args.slot c.args.body c.args.line)) c.set.ensures)
    (wait_leads (plain_ground c.args.base.now) mid _ _ c.wait.result _ _ c.requires.fits c.wait.ensures c.requires.body c.requires.list (λ s. refl))
