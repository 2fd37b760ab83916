use Rattle.std.proofs.Common.{◌≡◌, ◌≤◌, Some, false}
use mathlib.Core.List.{IsPrefix}
use Rattle.bp_view.specs.Ends.{seen}
use Rattle.bp_view.specs.Growing.{last_of}
use Rattle.bp_view.specs.Sinks.{written_to, KeepsSink}
use Rattle.bp_view.specs.Watching.{IsWatched}
use Rattle.bp_view.specs.declared.summary.Summary.{Summary}
use Rattle.bp_view.proofs.watching.watch.Given as goal

abbrev pub invariant-loop : goal.invariant-loop
invariant-loop g l = record {
  longer : IsPrefix (seen l.fn.watcher) (seen l.watcher);
  watched : (first : Summary) → last_of (seen l.fn.watcher) ≡ Some first → IsWatched first (seen l.watcher) false (written_to g.V.Sink l.fn.sink) (written_to g.V.Sink l.sink);
  keeps : KeepsSink g.V.Sink l.fn.sink l.sink;
  halts : g.W.Wake.halts l.fn.wake ≤ g.W.Wake.halts l.wake;
  orders : g.W.Wake.orders l.wake ≡ g.W.Wake.orders l.fn.wake;
}
