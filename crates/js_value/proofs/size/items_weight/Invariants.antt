use Rattle.std.proofs.Common.{◌≡◌, ◌≤◌, ◌+◌, drop}
use Rattle.js_data.specs.Capped.{capped}
use Rattle.js_value.specs.Value.{value_list_weight, AreSortedValues}
use Rattle.js_value.specs.Views.{value_list_view}
use Rattle.js_value.proofs.size.items_weight.Given as goal

abbrev pub invariant-loop-item : goal.invariant-loop-item
invariant-loop-item l =
    (l.sum ≤ 18_446_744_073_709_551_615) × (AreSortedValues (value_list_view (drop l.item-index l.items)) → AreSortedValues (value_list_view l.items)) × (capped (l.sum + value_list_weight (value_list_view (drop l.item-index l.items))) ≡ capped (value_list_weight (value_list_view l.items)))
