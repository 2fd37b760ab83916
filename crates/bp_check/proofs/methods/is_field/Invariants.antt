use Rattle.std.proofs.Common.{◌≡◌, drop}
use Rattle.std.specs.List.{list_any}
use Rattle.bp_check.specs.Findings.{has_field, is_field}
use Rattle.bp_check.proofs.methods.is_field.Given as goal

abbrev pub invariant-loop-number : goal.invariant-loop-number
invariant-loop-number l = record {
  rest : is_field l.program l.word ≡ list_any (has_field l.word) (drop l.number l.program.nodes);
}
