use Rattle.std.proofs.Common.{string_bytes}
use Rattle.js_frames.specs.Places.{plain_ground}
use Rattle.bp_meaning.specs.Membership.{member}
use Rattle.bp_explain.specs.Reasons.{passed_line}
use Rattle.bp_explain.proofs.Flat.{flat_step}
use Rattle.bp_explain.proofs.whys.write_all_passed.Goals as goal

pub loop-event-preserved : goal.loop-event-preserved
loop-event-preserved c =
    let has = member (plain_ground c.args.scene.now.ground.now) c.args.scene.now.budget in
    flat_step (passed_line has c.args.scene.now.stops.now) c.args.events.now c.loop-event.event-index c.event-item.result (string_bytes c.loop-event.text) (string_bytes c.write_passed.new.text) _ c.loop-event-test.true c.event-item.is
    c.in_ok-write_passed.ensures c.loop-event.invariant
