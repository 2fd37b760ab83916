use Rattle.std.proofs.Common.{◌≡◌, ◌≤◌, ◌+◌, drop}
use Rattle.js_data.specs.Capped.{capped}
use Rattle.js_value.specs.Value.{set_list_weight, AreSortedSets}
use Rattle.js_value.specs.Views.{set_list_of}
use Rattle.js_value.proofs.size.sets_weight.Given as goal

abbrev pub invariant-loop-set : goal.invariant-loop-set
invariant-loop-set l =
    (l.sum ≤ 18_446_744_073_709_551_615) × (AreSortedSets (set_list_of (drop l.set-index l.sets)) → AreSortedSets (set_list_of l.sets)) × (capped (l.sum + set_list_weight (set_list_of (drop l.set-index l.sets))) ≡ capped (set_list_weight (set_list_of l.sets)))
