use Rattle.std.proofs.Common.{refl, Ok}
use Rattle.js_frames.specs.declared.frame.Part.TheVariants.{Dropped}
use Rattle.js_frames.specs.declared.frame.Frame.TheVariants.{Waiting}
use Rattle.js_frames.specs.Places.{plain_ground, place_of}
use Rattle.js_frames.specs.Frames.{rest}
use Rattle.js_frames.proofs.Steps.{waits_still, left}
use Rattle.js_frames.proofs.DoingLemmas.{did_fits, did_on}
use Rattle.js_frames.proofs.engine.Engine.begin_dropped.Goals as goal

pub returns-then-do_at_once : goal.returns-then-do_at_once
unfolding rest
returns-then-do_at_once c =
    did_on (plain_ground c.args.base.now) (place_of c.args.self.now) (place_of c.do_at_once.new.self) c.args.part (c.do_at_once.ensures.done c.if-do_at_once.true) _ (Dropped) (Ok c.leave.result)
    (left (plain_ground c.args.base.now) (place_of c.do_at_once.new.self) _ _ c.leave.ensures (did_fits (plain_ground c.args.base.now) (place_of c.args.self.now) (place_of c.do_at_once.new.self) c.args.part (c.do_at_once.ensures.done c.if-do_at_once.true) c.requires.fits) (λ s. refl))

pub returns-else-do_at_once : goal.returns-else-do_at_once
returns-else-do_at_once c =
    waits_still (plain_ground c.args.base.now) (place_of c.args.self.now) (place_of c.do_at_once.new.self) _ (Waiting (Dropped)) c.args.part c.wait.result c.requires.fits (c.do_at_once.ensures.none c.if-do_at_once.false) c.wait.ensures tt c.requires.part
