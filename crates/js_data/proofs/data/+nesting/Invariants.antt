use Rattle.std.proofs.Common.{◌≡◌, ◌≤◌, max, drop}
use Rattle.js_data.specs.Capped.{capped}
use Rattle.js_data.specs.Data.{data_list_nesting, data_fields_nesting}
use Rattle.js_data.specs.Views.{data_list_view, data_fields_view}
use Rattle.js_data.proofs.data.+nesting.Given as goal

abbrev pub invariant-fields_nesting-loop-field : goal.invariant-fields_nesting-loop-field
invariant-fields_nesting-loop-field l =
    (l.most ≤ 18_446_744_073_709_551_615) × (capped (max l.most (data_fields_nesting (data_fields_view (drop l.field-index l.field-items)))) ≡ capped (data_fields_nesting (data_fields_view l.fn.fields.items)))

abbrev pub invariant-list_nesting-loop-item : goal.invariant-list_nesting-loop-item
invariant-list_nesting-loop-item l =
    (l.most ≤ 18_446_744_073_709_551_615) × (capped (max l.most (data_list_nesting (data_list_view (drop l.item-index l.item-items)))) ≡ capped (data_list_nesting (data_list_view l.fn.items.items)))
