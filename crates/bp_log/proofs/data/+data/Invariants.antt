use Rattle.std.proofs.Common.{◌≡◌, ◌++◌, drop, false}
use Rattle.std.specs.Prelude.{string_bytes}
use Rattle.js_data.specs.JsonText.{data_list_text, data_fields_text}
use Rattle.js_data.specs.Views.{data_list_view, data_fields_view}
use Rattle.bp_log.proofs.data.+data.Given as goal

abbrev pub invariant-push_items-loop-item : goal.invariant-push_items-loop-item
invariant-push_items-loop-item l =
    string_bytes l.out ++ data_list_text l.later (data_list_view (drop l.item-index l.item-items))
    ≡ string_bytes l.initial.out ++ data_list_text false (data_list_view l.item-items)

abbrev pub invariant-push_fields-loop-field : goal.invariant-push_fields-loop-field
invariant-push_fields-loop-field l =
    string_bytes l.out ++ data_fields_text l.later (data_fields_view (drop l.field-index l.field-items))
    ≡ string_bytes l.initial.out ++ data_fields_text false (data_fields_view l.field-items)
