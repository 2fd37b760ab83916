use Rattle.std.proofs.Common.{◌≡◌, ◌++◌, Some, map, drop}
use Rattle.js_value.specs.Views.{plain_value}
use Rattle.js_frames.proofs.slots.Slots.push_copies.Given as goal

abbrev pub invariant-loop-value : goal.invariant-loop-value
invariant-loop-value l = l.self ++ map Some (map plain_value (drop l.value-index l.values)) ≡ l.initial.self ++ map Some (map plain_value l.values)
