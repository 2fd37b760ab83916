use Rattle.std.proofs.Common.{string_bytes}
use Rattle.js_frames.specs.Places.{plain_ground}
use Rattle.bp_meaning.specs.Membership.{member}
use Rattle.bp_explain.specs.Stops.{request_line}
use Rattle.bp_explain.proofs.Flat.{flat_step}
use Rattle.bp_explain.proofs.rest.write_requests.Goals as goal

pub loop-event-preserved : goal.loop-event-preserved
loop-event-preserved c =
    let has = member (plain_ground c.args.rest.now.ground.now) c.args.rest.now.budget in
    flat_step (request_line has c.args.rest.now.stops.now) c.args.asked.now c.loop-event.event-index c.event-item.result (string_bytes c.loop-event.text) (string_bytes c.write_request.new.text) _ c.loop-event-test.true c.event-item.is
    c.in_ok-write_request.ensures c.loop-event.invariant
