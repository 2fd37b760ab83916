use Rattle.std.proofs.Common.{◌≡◌, drop, map}
use Rattle.std.specs.List.{list_any}
use Rattle.std.specs.Str.{bytes_eq}
use Rattle.std.specs.Arc.{arc_value}
use Rattle.bp_check.proofs.methods.is_among.Given as goal

abbrev pub invariant-loop-key : goal.invariant-loop-key
invariant-loop-key l = record {
  rest : list_any (bytes_eq l.word) (map arc_value l.keys) ≡ list_any (bytes_eq l.word) (map arc_value (drop l.key-index l.keys));
}
