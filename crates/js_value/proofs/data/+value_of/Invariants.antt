use Rattle.std.proofs.Common.{◌≡◌, ◌+◌, ◌*◌, map, take}
use Rattle.js_data.specs.Data.{data_weight, data_list_weight, data_fields_weight}
use Rattle.js_data.specs.Views.{plain_data, data_list_view, data_fields_view}
use Rattle.js_value.specs.Views.{plain_value, plain_value_field}
use Rattle.js_value.proofs.Converted.{value_of_item, value_of_field}
use Rattle.js_value.proofs.data.+value_of.Given as goal

abbrev pub invariant-values_of_data-loop-item : goal.invariant-values_of_data-loop-item
invariant-values_of_data-loop-item l = map plain_value l.values.items ≡ map value_of_item (take l.item-index l.item-items)

abbrev pub invariant-fields_of_data-loop-field : goal.invariant-fields_of_data-loop-field
invariant-fields_of_data-loop-field l = map plain_value_field l.values.items ≡ map value_of_field (take l.field-index l.field-items)

abbrev pub decreases-value_of_data : goal.decreases-value_of_data
decreases-value_of_data l = 2 * data_weight (plain_data l.tree.now)

abbrev pub decreases-values_of_data : goal.decreases-values_of_data
decreases-values_of_data l = 2 * data_list_weight (data_list_view l.items.now.items) + 1

abbrev pub decreases-fields_of_data : goal.decreases-fields_of_data
decreases-fields_of_data l = 2 * data_fields_weight (data_fields_view l.fields.now.items) + 1
