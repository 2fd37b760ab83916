use Rattle.std.proofs.Common.{◌≡◌, ◌++◌, drop}
use Rattle.js_frames.specs.Places.{plain_ground}
use Rattle.bp_meaning.specs.Membership.{member}
use Rattle.bp_explain.specs.inner.Lists.{texts_in}
use Rattle.bp_explain.specs.Reasons.{moved_names}
use Rattle.bp_explain.proofs.reaching.moved.Given as goal

abbrev pub invariant-loop-stop : goal.invariant-loop-stop
invariant-loop-stop l =
    let has = member (plain_ground l.scene.ground.now) l.scene.budget in
    texts_in l.names.items ++ moved_names has (drop l.stop-index l.scene.stops.now) l.event ≡ moved_names has l.scene.stops.now l.event
