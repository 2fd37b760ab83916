use Rattle.std.proofs.Common.{◌≡◌, ◌++◌, drop, string_bytes}
use Rattle.std.specs.Prelude.{flat_map}
use Rattle.js_frames.specs.Places.{plain_ground}
use Rattle.bp_meaning.specs.Membership.{member}
use Rattle.bp_explain.specs.Stops.{waiting_line}
use Rattle.bp_explain.proofs.rest.write_held.Given as goal

abbrev pub invariant-loop-event : goal.invariant-loop-event
invariant-loop-event l =
    string_bytes l.text ++ flat_map (waiting_line (member (plain_ground l.rest.ground.now) l.rest.budget) l.rest.stops.now) (drop l.event-index l.rest.queue.now) ≡ string_bytes l.initial.text ++ flat_map (waiting_line (member (plain_ground l.rest.ground.now) l.rest.budget) l.rest.stops.now) l.rest.queue.now
