use Rattle.js_frames.specs.Places.{plain_ground, place_of}
use Rattle.js_frames.proofs.Steps.{keeps_same, settled_unless, keeps_given}
use Rattle.js_frames.proofs.engine.Engine.settle.Goals as goal

pub unwind-requires : goal.unwind-requires
unwind-requires c = record { fits = c.requires.fits }

pub returns-in-Give : goal.returns-in-Give
returns-in-Give c = record {
  keeps = keeps_given (plain_ground c.args.base.now) (place_of c.args.self.now) (place_of c.unwind.new.self) c.args.step c.in-Give.completion c.unwind.result c.in-Give.is c.unwind.ensures.keeps;
  settled = c.unwind.ensures.settled;
}

pub returns-in_default : goal.returns-in_default
returns-in_default c = record {
  keeps = keeps_same (plain_ground c.args.base.now) (place_of c.args.self.now) c.args.step c.requires.fits c.requires.step;
  settled = settled_unless _ _ c.in_default.not-Give;
}
