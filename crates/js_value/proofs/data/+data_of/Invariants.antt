use Rattle.std.proofs.Common.{◌≡◌, drop, option_map}
use Rattle.js_value.specs.Sizes.{value_size, values_size, fields_size}
use Rattle.js_value.specs.Views.{plain_value, value_list_view, value_fields_view}
use Rattle.js_value.specs.DataValues.{values_data, fields_data}
use Rattle.js_data.proofs.After.{after, after_fields}
use Rattle.js_value.proofs.data.+data_of.Given as goal

abbrev pub invariant-data_of_values-loop-item : goal.invariant-data_of_values-loop-item
invariant-data_of_values-loop-item l = option_map (after l.made.items) (values_data (value_list_view (drop l.item-index l.item-items))) ≡ values_data (value_list_view l.item-items)

abbrev pub invariant-data_of_fields-loop-field : goal.invariant-data_of_fields-loop-field
invariant-data_of_fields-loop-field l = option_map (after_fields l.made.items) (fields_data (value_fields_view (drop l.field-index l.field-items))) ≡ fields_data (value_fields_view l.field-items)

abbrev pub decreases-data_of : goal.decreases-data_of
decreases-data_of l = value_size (plain_value l.v.now)

abbrev pub decreases-data_of_values : goal.decreases-data_of_values
decreases-data_of_values l = values_size l.items.now

abbrev pub decreases-data_of_fields : goal.decreases-data_of_fields
decreases-data_of_fields l = fields_size l.fields.now
