use Rattle.std.proofs.Common.{◌≡◌, ◌+◌, length, drop, map}
use Rattle.std.specs.Arc.{arc_value}
use Rattle.std.specs.Vec.Iter.{into_iter_items}
use Rattle.js_value.specs.Value.{no_fields}
use Rattle.js_value.specs.Views.{plain_value}
use Rattle.js_ops.specs.Making.{put_all}
use Rattle.js_ops.specs.inner.Entered.{entries_view, AreUnderTheirKeys}
use Rattle.js_ops.proofs.fields.fields_of_many.Given as goal

abbrev pub invariant-loop-value : goal.invariant-loop-value
invariant-loop-value l =
    let left = into_iter_items l.value-iterator in
    (l.at + length left ≡ length l.keys) × AreUnderTheirKeys l.fields.entries × (put_all (map arc_value (drop l.at l.keys)) (map plain_value left) (entries_view l.fields.entries) ≡ put_all (map arc_value l.keys) (map plain_value l.fn.parts.items) no_fields)
