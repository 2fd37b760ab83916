use Rattle.std.proofs.Common.{◌≡◌, ◌≤◌, ◌+◌, drop}
use Rattle.js_data.specs.Capped.{capped}
use Rattle.js_value.specs.Value.{value_fields_weight, AreSortedFields}
use Rattle.js_value.specs.Kept.{HaveSortedKeys}
use Rattle.js_value.specs.Views.{value_fields_view}
use Rattle.js_value.proofs.size.fields_weight.Given as goal

abbrev pub invariant-loop-field : goal.invariant-loop-field
invariant-loop-field l =
    (l.sum ≤ 18_446_744_073_709_551_615) × ((HaveSortedKeys (value_fields_view (drop l.field-index l.fields)) → AreSortedFields (value_fields_view (drop l.field-index l.fields))) → HaveSortedKeys (value_fields_view l.fields) → AreSortedFields (value_fields_view l.fields)) × (capped (l.sum + value_fields_weight (value_fields_view (drop l.field-index l.fields))) ≡ capped (value_fields_weight (value_fields_view l.fields)))
