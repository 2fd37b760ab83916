use Rattle.std.proofs.Common.{subst}
use Rattle.js_frames.specs.Places.{plain_ground, here}
use Rattle.js_frames.specs.Fits.{IsPerhapsNode}
use Rattle.js_frames.specs.Frames.{resume}
use Rattle.js_frames.proofs.Steps.{means_ok}
use Rattle.js_frames.proofs.LoopLemmas.{next_absent, next_there}
use Rattle.js_frames.proofs.engine.Engine.iterated.Goals as goal

pub returns-in-None : goal.returns-in-None
returns-in-None c = means_ok (plain_ground c.args.base.now) _ _ _ _ c.test.result c.test.ensures (λ s. next_absent (here c.args.base.now c.args.self.now) c.args.cycle s c.in-None.is)

pub returns-in-Some : goal.returns-in-Some
unfolding resume
returns-in-Some c =
    means_ok (plain_ground c.args.base.now) _ _ _ _ c.begin_between.result c.begin_between.ensures (λ s. next_there (here c.args.base.now c.args.self.now) c.args.cycle s c.in-Some.part c.in-Some.is)

pub begin_between-requires-clause-part : goal.begin_between-requires-clause-part
begin_between-requires-clause-part c =
    let t = c.requires.cycle in
    subst (IsPerhapsNode (let b = c.args.base.now in b.program)) c.in-Some.is t.next
