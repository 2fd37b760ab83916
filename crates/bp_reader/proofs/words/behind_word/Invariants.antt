use Rattle.std.proofs.Common.{◌≡◌, ◌≤◌, length, drop}
use Rattle.bp_reading.specs.Words.{behind}
use Rattle.bp_reader.proofs.words.behind_word.Given as goal

abbrev pub invariant-loop-i : goal.invariant-loop-i
invariant-loop-i l = record {
  rest : behind l.word l.bytes ≡ behind (drop l.i l.word) (drop l.i l.bytes);
  within : l.i ≤ length l.bytes;
}
