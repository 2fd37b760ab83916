use Rattle.std.proofs.Common.{◌≡◌, drop}
use Rattle.js_data.specs.Data.{same_data_list, same_data_fields}
use Rattle.js_data.specs.Views.{data_list_view, data_fields_view}
use Rattle.js_data.proofs.data.+same.Given as goal

abbrev pub invariant-same_list-loop-i : goal.invariant-same_list-loop-i
invariant-same_list-loop-i l =
    same_data_list (data_list_view (drop l.i l.left.items)) (data_list_view (drop l.i l.right.items)) ≡ same_data_list (data_list_view l.left.items) (data_list_view l.right.items)

abbrev pub invariant-same_fields-loop-i : goal.invariant-same_fields-loop-i
invariant-same_fields-loop-i l =
    same_data_fields (data_fields_view (drop l.i l.left.items)) (data_fields_view (drop l.i l.right.items)) ≡ same_data_fields (data_fields_view l.left.items) (data_fields_view l.right.items)
