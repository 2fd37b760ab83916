use Rattle.std.proofs.Common.{subst}
use Rattle.js_frames.specs.Places.{plain_ground, here}
use Rattle.js_frames.specs.Fits.{IsPerhapsNode}
use Rattle.js_frames.specs.Frames.{resume}
use Rattle.js_frames.proofs.Steps.{means_ok}
use Rattle.js_frames.proofs.LoopLemmas.{loop_without_test, loop_with_test}
use Rattle.js_frames.proofs.engine.Engine.test.Goals as goal

pub returns-in-None : goal.returns-in-None
returns-in-None c = means_ok (plain_ground c.args.base.now) _ _ _ _ c.iteration.result c.iteration.ensures (λ s. loop_without_test (here c.args.base.now c.args.self.now) c.args.cycle s c.in-None.is)

pub returns-in-Some : goal.returns-in-Some
unfolding resume
returns-in-Some c =
    means_ok (plain_ground c.args.base.now) _ _ _ _ c.begin_test.result c.begin_test.ensures (λ s. loop_with_test (here c.args.base.now c.args.self.now) c.args.cycle s c.in-Some.part c.in-Some.is)

pub begin_test-requires-clause-part : goal.begin_test-requires-clause-part
begin_test-requires-clause-part c =
    let t = c.requires.cycle in
    subst (IsPerhapsNode (let b = c.args.base.now in b.program)) c.in-Some.is t.test
