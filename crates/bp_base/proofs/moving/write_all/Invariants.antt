use Rattle.std.proofs.Common.{◌≤◌, ◌≡◌, ◌-◌, length, take}
use Rattle.bp_base.specs.Pieces.{Appends}
use Rattle.bp_base.proofs.moving.write_all.Given as goal

abbrev pub invariant-loop-done : goal.invariant-loop-done
invariant-loop-done g l = record {
  so_far : Appends (g.K.Sink.written l.fn.sink) (take l.done l.bytes) (g.K.Sink.written l.sink);
  counts : g.K.Sink.faults l.fn.sink ≤ g.K.Sink.faults l.sink;
  within : l.done ≤ length l.bytes;
  named : g.K.Sink.made_as l.sink ≡ g.K.Sink.made_as l.fn.sink;
}

abbrev pub decreases-loop-done : goal.decreases-loop-done
decreases-loop-done g l = length l.bytes - l.done
