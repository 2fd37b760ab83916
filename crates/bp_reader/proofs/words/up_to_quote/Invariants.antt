use Rattle.std.proofs.Common.{◌≡◌, false, drop, take}
use Rattle.bp_reading.specs.Words.{to_quote}
use Rattle.bp_reading.proofs.Quotes.{onto_all}
use Rattle.bp_reader.proofs.words.up_to_quote.Given as goal

abbrev pub invariant-loop-i : goal.invariant-loop-i
invariant-loop-i l = record {
  rest : to_quote false l.bytes ≡ onto_all (take l.i l.bytes) (to_quote l.escaped (drop l.i l.bytes));
}
