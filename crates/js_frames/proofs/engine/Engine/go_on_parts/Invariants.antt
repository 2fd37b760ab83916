use Rattle.js_frames.specs.Places.{plain_ground, place_of}
use Rattle.js_frames.proofs.PartLemmas.{Onto}
use Rattle.js_frames.proofs.engine.Engine.go_on_parts.Given as goal

abbrev pub invariant-loop-part : goal.invariant-loop-part
invariant-loop-part l = Onto (plain_ground l.base) (place_of l.fn.self) l.fn.number l.fn.done (place_of l.self) l.values

abbrev pub decreases-loop-part : goal.decreases-loop-part
decreases-loop-part l = l.self.fuel
