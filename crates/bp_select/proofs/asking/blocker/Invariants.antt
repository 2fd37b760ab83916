use Rattle.std.proofs.Common.{◌≡◌, map, drop}
use Rattle.js_frames.specs.Places.{plain_ground}
use Rattle.bp_meaning.specs.Membership.{member}
use Rattle.bp_run.specs.Selecting.{blocker}
use Rattle.bp_live.specs.Lives.{live_of}
use Rattle.bp_select.proofs.asking.blocker.Given as goal

abbrev pub invariant-loop-stated : goal.invariant-loop-stated
invariant-loop-stated l = let has = member (plain_ground l.ground) l.budget in blocker has (map live_of l.live) l.event ≡ blocker has (map live_of (drop l.stated-index l.live)) l.event
