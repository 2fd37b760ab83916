use Rattle.js_frames.specs.declared.frame.Part.TheVariants.{Between}
use Rattle.js_frames.specs.declared.frame.Frame.TheVariants.{Waiting}
use Rattle.js_frames.specs.Places.{plain_ground, place_of}
use Rattle.js_frames.specs.Frames.{rest}
use Rattle.js_frames.proofs.Steps.{waits_still}
use Rattle.js_frames.proofs.DoingLemmas.{did_fits, did_on}
use Rattle.js_frames.proofs.engine.Engine.begin_between.Goals as goal

pub returns-then-do_at_once : goal.returns-then-do_at_once
unfolding rest
returns-then-do_at_once c =
    did_on (plain_ground c.args.base.now) (place_of c.args.self.now) (place_of c.do_at_once.new.self) c.args.part (c.do_at_once.ensures.done c.if-do_at_once.true) _ (Between c.args.cycle) c.test.result
    c.test.ensures

pub returns-else-do_at_once : goal.returns-else-do_at_once
returns-else-do_at_once c =
    waits_still (plain_ground c.args.base.now) (place_of c.args.self.now) (place_of c.do_at_once.new.self) _ (Waiting (Between c.args.cycle)) c.args.part c.wait.result c.requires.fits (c.do_at_once.ensures.none c.if-do_at_once.false) c.wait.ensures c.requires.cycle c.requires.part

pub test-requires : goal.test-requires
test-requires c = record {
  cycle = c.requires.cycle;
  fits = (did_fits (plain_ground c.args.base.now) (place_of c.args.self.now) (place_of c.do_at_once.new.self) c.args.part (c.do_at_once.ensures.done c.if-do_at_once.true) c.requires.fits);
}
