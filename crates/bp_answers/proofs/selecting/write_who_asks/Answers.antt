use Rattle.std.proofs.Common.{string_bytes}
use Rattle.std.proofs.lemmas.Result.{on_ok_weaker}
use Rattle.js_frames.specs.Places.{plain_ground}
use Rattle.bp_answers.proofs.ReasonLemmas.{asked_written}
use Rattle.bp_answers.proofs.selecting.write_who_asks.Goals as goal

pub returns : goal.returns
returns c =
    let k = c.keeps.ensures in
    let f = c.floor-floor in
    on_ok_weaker c.write_asked.result
    (λ h.
    asked_written c.args.arbiter.now f.result.now (plain_ground c.ground.result.now) c.args.event.now c.in_ok-stops.stops.items c.as_slice.result.now c.options.result c.budget.result (string_bytes c.args.text.now) (string_bytes c.write_asked.new.text) c.requires.sound c.requires.rest
    k.phased k.kept f.ensures.floor f.ensures.shows c.in_ok-stops.ensures c.as_slice.ensures.value c.ground.ensures c.options.ensures c.budget.ensures.budget h)
    c.write_asked.ensures
