use Rattle.std.proofs.Common.{◌≡◌, ◌++◌, drop}
use Rattle.js_frames.specs.Places.{plain_ground}
use Rattle.bp_meaning.specs.Membership.{member}
use Rattle.bp_explain.specs.Stops.{blocker_names}
use Rattle.bp_explain.specs.inner.Lists.{texts_in}
use Rattle.bp_explain.proofs.stops.blockers.Given as goal

abbrev pub invariant-loop-stop : goal.invariant-loop-stop
invariant-loop-stop l =
    let has = member (plain_ground l.ground) l.budget in
    texts_in l.names.items ++ blocker_names has (drop l.stop-index l.stops) l.event ≡ blocker_names has l.stops l.event
