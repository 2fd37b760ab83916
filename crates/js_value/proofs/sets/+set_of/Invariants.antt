use Rattle.std.proofs.Common.{◌≡◌, drop, option_map}
use Rattle.js_value.specs.Sizes.{value_size, values_size}
use Rattle.js_value.specs.Views.{plain_value, value_list_view}
use Rattle.js_value.specs.Sets.{sets_of}
use Rattle.js_value.proofs.Converted.{after_sets}
use Rattle.js_value.proofs.sets.+set_of.Given as goal

abbrev pub invariant-sets_of_values-loop-item : goal.invariant-sets_of_values-loop-item
invariant-sets_of_values-loop-item l = option_map (after_sets l.made.items) (sets_of (value_list_view (drop l.item-index l.item-items))) ≡ sets_of (value_list_view l.item-items)

abbrev pub decreases-set_of_value : goal.decreases-set_of_value
decreases-set_of_value l = value_size (plain_value l.v.now)

abbrev pub decreases-sets_of_values : goal.decreases-sets_of_values
decreases-sets_of_values l = values_size l.items.now
