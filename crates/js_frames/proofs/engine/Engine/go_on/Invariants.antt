use Rattle.js_frames.specs.Places.{plain_ground, place_of}
use Rattle.js_frames.proofs.AlongLemmas.{Along}
use Rattle.js_frames.proofs.engine.Engine.go_on.Given as goal

abbrev pub invariant-loop-statement : goal.invariant-loop-statement
invariant-loop-statement l = Along (plain_ground l.base) (place_of l.fn.self) l.fn.sequence l.fn.place (place_of l.self) l.at

abbrev pub decreases-loop-statement : goal.decreases-loop-statement
decreases-loop-statement l = l.self.fuel
