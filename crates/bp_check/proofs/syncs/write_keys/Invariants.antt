use Rattle.std.proofs.Common.{◌≡◌, ◌++◌, drop, map, flat_map, string_bytes}
use Rattle.std.specs.List.{zip}
use Rattle.std.specs.Arc.{arc_value}
use Rattle.bp_check.specs.Findings.{of_key}
use Rattle.bp_check.specs.Sentences.{findings_text}
use Rattle.bp_check.proofs.syncs.write_keys.Given as goal

abbrev pub invariant-loop-key : goal.invariant-loop-key
invariant-loop-key l = record {
  place : l.place ≡ l.key-index;
  rest : string_bytes l.initial.text ++ findings_text (flat_map (of_key l.program) (zip (map arc_value l.keys) l.values))
      ≡ string_bytes l.text ++ findings_text (flat_map (of_key l.program) (zip (map arc_value (drop l.key-index l.keys)) (drop l.key-index l.values)));
}
