use Rattle.std.proofs.Common.{◌≡◌, ◌≤◌, ◌+◌, length, drop, map, flat_map}
use Rattle.js_data.specs.Capped.{capped}
use Rattle.js_value.specs.Views.{plain_value}
use Rattle.js_ops.specs.Methods.{joined}
use Rattle.js_ops.proofs.methods.count_joined.Given as goal

abbrev pub invariant-loop-value : goal.invariant-loop-value
invariant-loop-value l =
    (l.count ≤ 18_446_744_073_709_551_615) × (capped (l.count + length (flat_map joined (map plain_value (drop l.value-index l.values)))) ≡ capped (length (flat_map joined (map plain_value l.values))))
