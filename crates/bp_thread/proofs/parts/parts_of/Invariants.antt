use Rattle.std.proofs.Common.{◌≡◌, List, ℕ, None, drop}
use Rattle.std.specs.List.{list_all}
use Rattle.js_value.specs.Value.{PlainValue}
use Rattle.js_value.specs.Lists.{fields_in}
use Rattle.js_value.specs.Views.{value_fields_view}
use Rattle.bp_meaning.specs.Statements.{is_key}
use Rattle.bp_thread.specs.Parts.{plain_parts, parts_then}
use Rattle.bp_thread.proofs.parts.parts_of.Given as goal

abbrev pub invariant-loop-field : goal.invariant-loop-field
invariant-loop-field l = record {
  keys : list_all (λ (f : List ℕ × PlainValue). is_key f.0) (fields_in (value_fields_view (drop l.field-index l.field-items))) ≡ list_all (λ (f : List ℕ × PlainValue). is_key f.0) (fields_in (value_fields_view l.field-items));
  parts :
      parts_then (plain_parts l.parts) (value_fields_view (drop l.field-index l.field-items))
      ≡ parts_then (record { request = None; wait_for = None; block = None; interrupt = None }) (value_fields_view l.field-items);
}
