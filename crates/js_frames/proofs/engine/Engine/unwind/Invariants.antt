use Rattle.std.proofs.Common.{vec_len}
use Rattle.js_frames.specs.declared.step.Step.TheVariants.{Give}
use Rattle.js_frames.specs.Places.{plain_ground, place_of}
use Rattle.js_frames.specs.inner.Leads.{Keeps}
use Rattle.js_frames.proofs.engine.Engine.unwind.Given as goal

abbrev pub invariant-loop-frame : goal.invariant-loop-frame
invariant-loop-frame l = Keeps (plain_ground l.base) (place_of l.fn.self) (Give l.fn.completion) (place_of l.self) (Give l.current)

abbrev pub decreases-loop-frame : goal.decreases-loop-frame
decreases-loop-frame l = vec_len l.self.stack
