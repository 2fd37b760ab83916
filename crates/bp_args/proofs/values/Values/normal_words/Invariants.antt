use Rattle.std.proofs.Common.{◌≡◌, map, ◌++◌, drop}
use Rattle.std.specs.Prelude.{string_bytes}
use Rattle.bp_args.specs.inner.NormalWords.{normal_words}
use Rattle.bp_args.proofs.values.Values.normal_words.Given as goal

abbrev pub invariant-loop-word : goal.invariant-loop-word
invariant-loop-word l = record {
  rest : map string_bytes l.words.items ++ drop l.word-index l.self.words ≡ normal_words l.self;
}
