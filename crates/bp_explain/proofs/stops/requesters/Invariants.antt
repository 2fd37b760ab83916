use Rattle.std.proofs.Common.{◌≡◌, ◌++◌, drop}
use Rattle.bp_explain.specs.Stops.{requester_names}
use Rattle.bp_explain.specs.inner.Lists.{texts_in}
use Rattle.bp_explain.proofs.stops.requesters.Given as goal

abbrev pub invariant-loop-stop : goal.invariant-loop-stop
invariant-loop-stop l = texts_in l.names.items ++ requester_names (drop l.stop-index l.stops) l.event ≡ requester_names l.stops l.event
