use Rattle.std.proofs.Common.{◌≡◌, drop, take}
use Rattle.bp_reading.specs.Words.{around}
use Rattle.bp_reading.proofs.Quotes.{onto_all}
use Rattle.bp_reader.proofs.words.around_byte.Given as goal

abbrev pub invariant-loop-i : goal.invariant-loop-i
invariant-loop-i l = record {
  rest : around l.byte l.bytes ≡ onto_all (take l.i l.bytes) (around l.byte (drop l.i l.bytes));
}
