use Rattle.std.proofs.Common.{◌≡◌, drop, option_map}
use Rattle.serde_json.specs.View.{items_view, members_view}
use Rattle.js_json.specs.Json.{list_from, fields_from}
use Rattle.js_data.proofs.After.{after, after_fields}
use Rattle.js_json.proofs.reader.+of.Given as goal

abbrev pub invariant-list_of-loop-item : goal.invariant-list_of-loop-item
invariant-list_of-loop-item l = option_map (after l.made.items) (list_from (items_view (drop l.item-index l.item-items))) ≡ list_from (items_view l.item-items)

abbrev pub invariant-fields_of-loop-key : goal.invariant-fields_of-loop-key
invariant-fields_of-loop-key l = option_map (after_fields l.made.items) (fields_from (members_view l.key-iterator)) ≡ fields_from (members_view l.members.entries)
