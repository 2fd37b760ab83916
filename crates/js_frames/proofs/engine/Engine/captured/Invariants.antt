use Rattle.std.proofs.Common.{◌≡◌, ◌++◌, map, drop}
use Rattle.js_value.specs.Views.{plain_value}
use Rattle.js_meaning.specs.Variables.{captured}
use Rattle.js_frames.proofs.engine.Engine.captured.Given as goal

abbrev pub invariant-loop-slot : goal.invariant-loop-slot
invariant-loop-slot l = map plain_value l.values.items ++ captured (drop l.slot-index l.slots) l.self.slots ≡ captured l.slots l.self.slots
