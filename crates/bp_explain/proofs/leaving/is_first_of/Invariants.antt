use Rattle.std.proofs.Common.{◌≡◌, drop, find}
use Rattle.std.specs.List.{list_any}
use Rattle.js_data.specs.Event.{same_event}
use Rattle.bp_explain.specs.Stops.{live_of}
use Rattle.bp_explain.proofs.leaving.is_first_of.Given as goal

abbrev pub invariant-loop-request : goal.invariant-loop-request
invariant-loop-request l =
    let asked = (live_of l.stop).statement.request in
    find (λ r. list_any (same_event r) l.inner) asked ≡ find (λ r. list_any (same_event r) l.inner) (drop l.request-index asked)
