use Rattle.std.proofs.Common.{◌≡◌, ◌≤◌, ◌-◌, length}
use Rattle.bp_reader.proofs.Programs.{Along}
use Rattle.bp_reader.proofs.head.program_of.Given as goal

abbrev pub invariant-loop : goal.invariant-loop
invariant-loop g l = record {
  so_far : Along l.size l.fn.input.left l.input.left l.program.items (l.size - l.counter);
  taken : length l.program.items ≡ l.counter;
  counts : l.fn.input.faults ≤ l.input.faults;
}
