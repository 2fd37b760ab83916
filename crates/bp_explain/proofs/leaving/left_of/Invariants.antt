use Rattle.std.proofs.Common.{◌≡◌, ◌++◌, drop, filter}
use Rattle.bp_explain.specs.inner.Leaving.{leaves}
use Rattle.bp_explain.proofs.leaving.left_of.Given as goal

abbrev pub invariant-loop-event : goal.invariant-loop-event
invariant-loop-event l =
    let stays = leaves l.strategy l.stops l.inner in
    l.left.items ++ filter stays (drop l.event-index l.inner) ≡ filter stays l.inner
