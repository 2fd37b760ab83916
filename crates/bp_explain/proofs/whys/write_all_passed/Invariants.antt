use Rattle.std.proofs.Common.{◌≡◌, ◌++◌, drop, string_bytes}
use Rattle.std.specs.Prelude.{flat_map}
use Rattle.js_frames.specs.Places.{plain_ground}
use Rattle.bp_meaning.specs.Membership.{member}
use Rattle.bp_explain.specs.Reasons.{passed_line}
use Rattle.bp_explain.proofs.whys.write_all_passed.Given as goal

abbrev pub invariant-loop-event : goal.invariant-loop-event
invariant-loop-event l =
    let line = passed_line (member (plain_ground l.scene.ground.now) l.scene.budget) l.scene.stops.now in
    string_bytes l.text ++ flat_map line (drop l.event-index l.events) ≡ string_bytes l.initial.text ++ flat_map line l.events
