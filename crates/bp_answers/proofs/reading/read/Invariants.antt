use Rattle.std.proofs.Common.{◌-◌}
use Rattle.bp_reading.specs.declared.limits.TheConstants.{MOST_RECORDS}
use Rattle.bp_answers.proofs.ReadLemmas.{ReadSo}
use Rattle.bp_answers.proofs.reading.read.Given as goal

abbrev pub invariant-loop-alloc : goal.invariant-loop-alloc
invariant-loop-alloc g l = ReadSo l.fn.reader l.number l.records.items l.reader

abbrev pub decreases-loop-alloc : goal.decreases-loop-alloc
decreases-loop-alloc g l = MOST_RECORDS - l.reader.stage.lines
