use Rattle.std.proofs.Common.{◌≡◌, ◌∷◌, ◌++◌, map, drop}
use Rattle.std.specs.Prelude.{string_bytes}
use Rattle.bpx_cli.proofs.behind.words_behind.Given as goal

abbrev pub invariant-loop-word : goal.invariant-loop-word
invariant-loop-word l = record {
  rest : map string_bytes l.all.items ++ map string_bytes (drop l.word-index l.words) ≡ l.first ∷ map string_bytes l.words;
}
