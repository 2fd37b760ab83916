use Rattle.std.proofs.Common.{◌≡◌, ◌≤◌, ◌+◌, drop}
use Rattle.js_data.specs.Capped.{capped}
use Rattle.js_data.specs.Data.{data_list_weight, data_fields_weight, AreHeld, AreHeldFields}
use Rattle.js_data.specs.Views.{data_list_view, data_fields_view}
use Rattle.js_data.proofs.data.+weight.Given as goal

abbrev pub invariant-fields_weight-loop-field : goal.invariant-fields_weight-loop-field
invariant-fields_weight-loop-field l =
    (l.sum ≤ 18_446_744_073_709_551_615) × (AreHeldFields (data_fields_view (drop l.field-index l.field-items)) → AreHeldFields (data_fields_view l.fn.fields.items)) × (capped (l.sum + data_fields_weight (data_fields_view (drop l.field-index l.field-items))) ≡ capped (1 + data_fields_weight (data_fields_view l.fn.fields.items)))

abbrev pub invariant-list_weight-loop-item : goal.invariant-list_weight-loop-item
invariant-list_weight-loop-item l =
    (l.sum ≤ 18_446_744_073_709_551_615) × (AreHeld (data_list_view (drop l.item-index l.item-items)) → AreHeld (data_list_view l.fn.items.items)) × (capped (l.sum + data_list_weight (data_list_view (drop l.item-index l.item-items))) ≡ capped (1 + data_list_weight (data_list_view l.fn.items.items)))
