use Rattle.std.proofs.Common.{◌≡◌, map, take, drop}
use Rattle.serde_json.specs.Data.{no_members}
use Rattle.serde_json.specs.View.{view, members_view}
use Rattle.js_json.specs.inner.Built.{data_json, put_all}
use Rattle.js_data.specs.Views.{plain_data, data_fields_view}
use Rattle.js_json.proofs.writer.+json.Given as goal

abbrev pub invariant-json_of_items-loop-item : goal.invariant-json_of_items-loop-item
invariant-json_of_items-loop-item l = map view l.made.items ≡ map (λ d. data_json (plain_data d)) (take l.item-index l.item-items)

abbrev pub invariant-json_of_fields-loop-field : goal.invariant-json_of_fields-loop-field
invariant-json_of_fields-loop-field l =
    put_all (data_fields_view (drop l.field-index l.field-items)) (members_view l.made.entries) ≡ put_all (data_fields_view l.field-items) no_members
