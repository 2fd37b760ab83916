use Rattle.std.proofs.Common.{◌≡◌, ◌≤◌, max, drop}
use Rattle.js_data.specs.Capped.{capped}
use Rattle.js_value.specs.Value.{value_fields_nesting}
use Rattle.js_value.specs.Views.{value_fields_view}
use Rattle.js_value.proofs.size.fields_nesting.Given as goal

abbrev pub invariant-loop-field : goal.invariant-loop-field
invariant-loop-field l =
    (l.most ≤ 18_446_744_073_709_551_615) × (capped (max l.most (value_fields_nesting (value_fields_view (drop l.field-index l.fields)))) ≡ capped (value_fields_nesting (value_fields_view l.fields)))
