use Rattle.std.proofs.Common.{◌≡◌, drop, map}
use Rattle.std.specs.Prelude.{option_map}
use Rattle.bp_check.specs.Sentences.{nearer, nearest}
use Rattle.bp_check.proofs.hint.nearest.Given as goal

abbrev pub invariant-loop-name : goal.invariant-loop-name
invariant-loop-name l = record {
  rest : nearest l.word ≡ nearer l.word (option_map (λ w. w.now) l.found) l.best (map (λ w. w.now) (drop l.name-index l.name-items));
}
