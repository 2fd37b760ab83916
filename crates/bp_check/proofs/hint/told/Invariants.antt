use Rattle.std.proofs.Common.{◌≡◌, drop, map}
use Rattle.bp_check.specs.Sentences.{told, told_in}
use Rattle.bp_check.proofs.hint.told.Given as goal

abbrev pub invariant-loop-pair : goal.invariant-loop-pair
invariant-loop-pair l = record {
  rest : told l.word ≡ told_in l.word (map (λ h. (h.0.now, h.1.now)) (drop l.pair-index l.pair-items));
}
