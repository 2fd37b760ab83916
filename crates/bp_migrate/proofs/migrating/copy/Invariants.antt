use Rattle.std.proofs.Common.{◌≡◌, ◌≤◌, ◌-◌}
use Rattle.bp_reading.specs.declared.limits.TheConstants.{MOST_RECORDS}
use Rattle.bp_migrate.proofs.Copying.{Along}
use Rattle.bp_migrate.proofs.migrating.copy.Given as goal

abbrev pub invariant-loop-entry : goal.invariant-loop-entry
invariant-loop-entry g l = record {
  along : Along l.fn.reader l.fn.page (g.K.Sink.written l.fn.out) l.reader l.page (g.K.Sink.written l.out);
  read_counts : l.fn.reader.faults ≤ l.reader.faults;
  write_counts : g.K.Sink.faults l.fn.out ≤ g.K.Sink.faults l.out;
  named : g.K.Sink.made_as l.out ≡ g.K.Sink.made_as l.fn.out;
}

abbrev pub decreases-loop-entry : goal.decreases-loop-entry
decreases-loop-entry g l = MOST_RECORDS - l.reader.stage.lines
