use Rattle.std.proofs.Common.{ap}
use Rattle.js_meaning.specs.Meaning.{eval}
use Rattle.js_meaning.specs.Expressions.{assigns}
use Rattle.js_frames.specs.Places.{plain_ground, here}
use Rattle.js_frames.specs.Frames.{rest, resume}
use Rattle.js_frames.proofs.Steps.{means_ok}
use Rattle.js_frames.proofs.engine.Engine.assign.Goals as goal

pub returns-in-None : goal.returns-in-None
unfolding resume rest
returns-in-None c = means_ok (plain_ground c.args.base.now) _ _ _ _ c.begin_assigned.result c.begin_assigned.ensures (λ s. ap (λ o. assigns (eval (here c.args.base.now c.args.self.now)) c.args.line o c.args.slot c.args.part s) c.in-None.ensures)

pub returns-in-Some : goal.returns-in-Some
returns-in-Some c = means_ok (plain_ground c.args.base.now) _ _ _ _ c.assign_with.result c.assign_with.ensures (λ s. ap (λ o. assigns (eval (here c.args.base.now c.args.self.now)) c.args.line o c.args.slot c.args.part s) c.in-Some.ensures)

pub assign_with-requires-clause-part : goal.assign_with-requires-clause-part
assign_with-requires-clause-part c = c.requires.part

pub assign_with-requires-clause-fits : goal.assign_with-requires-clause-fits
assign_with-requires-clause-fits c = c.requires.fits
