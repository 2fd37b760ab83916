use Rattle.std.proofs.Common.{◌≡◌, map, ◌++◌, drop}
use Rattle.bp_args.proofs.telling.words_of.Given as goal

-- those that were copied, and those that are left, are all
abbrev pub invariant-loop-word : goal.invariant-loop-word
invariant-loop-word l = record {
  rest : l.words.items ++ map (λ w. w.now) (drop l.word-index l.values) ≡ map (λ w. w.now) l.values;
}
