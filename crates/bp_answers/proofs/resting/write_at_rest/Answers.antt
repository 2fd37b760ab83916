use Rattle.std.proofs.Common.{string_bytes}
use Rattle.std.proofs.lemmas.Result.{on_ok_weaker}
use Rattle.js_frames.specs.Places.{plain_ground}
use Rattle.bp_answers.proofs.Rests.{rests_written}
use Rattle.bp_answers.proofs.resting.write_at_rest.Goals as goal

pub returns-clause-written : goal.returns-clause-written
returns-clause-written c =
    let k = c.keeps.ensures in
    let f = c.floor-floor in
    on_ok_weaker c.write_rest.result
    (λ h.
    rests_written c.args.arbiter.now c.enabled.new.self f.result.now (plain_ground c.ground.result.now) c.in_ok-stops.stops.items c.as_slice.result.now c.in_ok-nothing.nothing c.options.result c.budget.result c.queue.result.now c.reading.result.now (string_bytes c.args.text.now)
    (string_bytes c.write_rest.new.text) c.enabled.ensures.same c.requires.sound c.requires.rest k.phased k.kept k.stands f.ensures.floor f.ensures.shows c.in_ok-stops.ensures c.as_slice.ensures.value c.ground.ensures c.options.ensures c.budget.ensures.budget c.queue.ensures
    c.reading.ensures (c.in_ok-nothing.ensures _ c.enabled.ensures.enabled) h)
    c.write_rest.ensures
