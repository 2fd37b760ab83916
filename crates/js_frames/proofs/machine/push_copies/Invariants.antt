use Rattle.std.proofs.Common.{◌≡◌, ◌++◌, map, drop}
use Rattle.js_value.specs.Views.{plain_value}
use Rattle.js_frames.proofs.machine.push_copies.Given as goal

abbrev pub invariant-loop-value : goal.invariant-loop-value
invariant-loop-value l = l.made ++ map plain_value (drop l.value-index l.values) ≡ map plain_value l.values
