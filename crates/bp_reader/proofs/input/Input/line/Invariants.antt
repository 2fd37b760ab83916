use Rattle.std.proofs.Common.{◌≤◌, ◌-◌, vec_len}
use Rattle.bp_reader.proofs.Along.{Along}
use Rattle.bp_reader.proofs.input.Input.line.Given as goal

abbrev pub invariant-loop-self : goal.invariant-loop-self
invariant-loop-self g l = record {
  so_far : Along l.room l.fn.self.left l.self.left l.line.items (l.room - vec_len l.line);
  within : vec_len l.line ≤ l.room;
  counts : l.fn.self.faults ≤ l.self.faults;
}

abbrev pub decreases-loop-self : goal.decreases-loop-self
decreases-loop-self g l = l.room - vec_len l.line
