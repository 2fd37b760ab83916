use Rattle.std.proofs.Common.{refl}
use Rattle.js_frames.specs.Places.{plain_ground}
use Rattle.js_frames.specs.Frames.{resume}
use Rattle.js_frames.proofs.Steps.{wait_leads}
use Rattle.js_frames.proofs.engine.Engine.iteration.Goals as goal

pub returns : goal.returns
unfolding resume
returns c = let t = c.requires.cycle in wait_leads (plain_ground c.args.base.now) _ _ _ c.wait.result _ _ c.requires.fits c.wait.ensures t t.body (λ s. refl)
