use Rattle.std.proofs.Common.{◌≡◌, [], drop}
use Rattle.bp_explain.specs.inner.Lists.{with_all}
use Rattle.bp_explain.proofs.Noted.{asked_in}
use Rattle.bp_explain.proofs.stops.candidates.Given as goal

abbrev pub invariant-loop-stop : goal.invariant-loop-stop
invariant-loop-stop l = with_all l.events.items (asked_in (drop l.stop-index l.stops)) ≡ with_all [] (asked_in l.stops)
