use Rattle.std.proofs.Common.{◌≡◌, ◌≤◌, ◌-◌}
use Rattle.bp_reading.specs.declared.limits.TheConstants.{MOST_RECORDS}
use Rattle.bp_replay.specs.Following.{first_of}
use Rattle.bp_replay.proofs.Loop.{Along}
use Rattle.bp_replay.proofs.telling.tell.Given as goal

abbrev pub invariant-loop-reader : goal.invariant-loop-reader
invariant-loop-reader g l = record {
  along : Along (first_of l.fn.reader.stage.version l.fn.arbiter) l.fn.reader.left (g.K.Sink.written l.fn.out) l.reader l.arbiter l.number l.page (g.K.Sink.written l.out);
  read_counts : l.fn.reader.faults ≤ l.reader.faults;
  write_counts : g.K.Sink.faults l.fn.out ≤ g.K.Sink.faults l.out;
  named : g.K.Sink.made_as l.out ≡ g.K.Sink.made_as l.fn.out;
}

abbrev pub decreases-loop-reader : goal.decreases-loop-reader
decreases-loop-reader g l = MOST_RECORDS - l.reader.stage.lines
