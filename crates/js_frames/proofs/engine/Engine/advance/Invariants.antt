use Rattle.std.proofs.Common.{◌-◌}
use Rattle.js_frames.specs.Places.{plain_ground, place_of}
use Rattle.js_frames.specs.inner.Leads.{Keeps}
use Rattle.js_frames.specs.declared.step.Step.TheVariants.{Begin}
use Rattle.js_frames.proofs.engine.Engine.advance.Given as goal

abbrev pub invariant-loop-self : goal.invariant-loop-self
invariant-loop-self l = Keeps (plain_ground l.base) (record (place_of l.fn.self) { floor = l.fn.self.fuel - l.fn.nodes }) l.fn.step (place_of l.self) (Begin l.current)

abbrev pub decreases-loop-self : goal.decreases-loop-self
decreases-loop-self l = l.self.fuel
