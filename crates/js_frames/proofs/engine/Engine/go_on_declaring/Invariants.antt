use Rattle.std.proofs.Common.{◌-◌, length}
use Rattle.js_frames.specs.Places.{plain_ground, place_of}
use Rattle.js_frames.proofs.VariableLemmas.{Onward}
use Rattle.js_frames.proofs.engine.Engine.go_on_declaring.Given as goal

abbrev pub invariant-loop-declarator : goal.invariant-loop-declarator
invariant-loop-declarator l = Onward (plain_ground l.base) (place_of l.fn.self) l.fn.number l.fn.place (place_of l.self) l.at

abbrev pub decreases-loop-declarator : goal.decreases-loop-declarator
decreases-loop-declarator l = length l.declared.items - l.at
