use Rattle.std.proofs.Common.{◌≡◌, ◌++◌, map, drop}
use Rattle.std.specs.Arc.{arc_value}
use Rattle.js_tree.specs.Plain.{fields_of}
use Rattle.js_tree.specs.Views.{plain_field}
use Rattle.js_resolver.specs.NodeForms.{keys_of}
use Rattle.js_resolver.proofs.emit.keys_of.Given as goal

abbrev pub invariant-loop-field : goal.invariant-loop-field
invariant-loop-field l = map arc_value l.keys.items ++ keys_of (fields_of (map plain_field (drop l.field-index l.fields))) ≡ keys_of (fields_of (map plain_field l.fields))
