use Rattle.std.proofs.Common.{◌≡◌, ◌≤◌, take}
use Rattle.std.specs.Prelude.{count_by}
use Rattle.bp_cli.specs.Large.{is_selection}
use Rattle.bp_cli.proofs.large.selections.Given as goal

abbrev pub invariant-loop-entry : goal.invariant-loop-entry
invariant-loop-entry l = record {
  counted : l.count ≡ count_by is_selection (take l.entry-index l.records);
  few : l.count ≤ l.entry-index;
}
