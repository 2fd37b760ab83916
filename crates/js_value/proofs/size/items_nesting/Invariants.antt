use Rattle.std.proofs.Common.{◌≡◌, ◌≤◌, max, drop}
use Rattle.js_data.specs.Capped.{capped}
use Rattle.js_value.specs.Value.{value_list_nesting}
use Rattle.js_value.specs.Views.{value_list_view}
use Rattle.js_value.proofs.size.items_nesting.Given as goal

abbrev pub invariant-loop-item : goal.invariant-loop-item
invariant-loop-item l =
    (l.most ≤ 18_446_744_073_709_551_615) × (capped (max l.most (value_list_nesting (value_list_view (drop l.item-index l.items)))) ≡ capped (value_list_nesting (value_list_view l.items)))
