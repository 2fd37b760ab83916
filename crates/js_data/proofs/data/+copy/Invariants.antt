use Rattle.std.proofs.Common.{◌≡◌, map, take}
use Rattle.js_data.specs.Views.{plain_data, plain_field}
use Rattle.js_data.proofs.data.+copy.Given as goal

abbrev pub invariant-copy_fields-loop-field : goal.invariant-copy_fields-loop-field
invariant-copy_fields-loop-field l = map plain_field l.copies.items ≡ map plain_field (take l.field-index l.field-items)

abbrev pub invariant-copy_list-loop-item : goal.invariant-copy_list-loop-item
invariant-copy_list-loop-item l = map plain_data l.copies.items ≡ map plain_data (take l.item-index l.item-items)
