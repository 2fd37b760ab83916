use Rattle.std.proofs.Common.{◌≡◌, map, ◌++◌, drop}
use Rattle.std.specs.Prelude.{string_bytes}
use Rattle.bp_args.specs.Keys.{keys}
use Rattle.bp_args.specs.inner.NormalWords.{all_options}
use Rattle.bp_args.proofs.values.Values.option_words.Given as goal

abbrev pub invariant-loop-key : goal.invariant-loop-key
invariant-loop-key l = record {
  rest : map string_bytes l.words.items ++ all_options l.self (drop l.key-index l.key-items) ≡ all_options l.self keys;
}
