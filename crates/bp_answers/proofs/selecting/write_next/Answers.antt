use Rattle.std.proofs.Common.{◌≡◌, ◌++◌, map, string_bytes, Some}
use Rattle.std.proofs.lemmas.Result.{on_ok_weaker}
use Rattle.js_frames.specs.Places.{plain_ground}
use Rattle.bp_draw.specs.Words.{draw_word}
use Rattle.bp_meaning.specs.Membership.{member}
use Rattle.bp_run.specs.Choosing.{Choice, chosen}
use Rattle.bp_select.specs.Answers.{enabled_of}
use Rattle.bp_explain.specs.Stops.{live_of}
use Rattle.bp_explain.specs.Reasons.{why_lines}
use Rattle.bp_answers.proofs.ReasonLemmas.{each_said, why_written}
use Rattle.bp_answers.proofs.selecting.write_next.Goals as goal

pub returns : goal.returns
returns c =
    let a = c.args.arbiter.now in
    let k = c.keeps.ensures in
    let f = c.floor-floor in
    let x = enabled_of c.args.enabled.now in
    let g = plain_ground c.ground.result.now in
    let seen = c.as_slice.result.now in
    let queue = c.queue.result.now in
    let word = draw_word c.seed.result in
    let old = string_bytes c.args.text.now in
    let new = string_bytes c.write_selection.new.text in
    on_ok_weaker c.write_selection.result
    (λ h.
    why_written a f.result.now g c.in_ok-stops.stops.items seen x c.options-options.result c.budget.result c.seed.result c.drawn.result c.strategy.result queue old new c.requires.sound c.requires.rest k.phased k.kept k.stands f.ensures.floor f.ensures.shows
    c.in_ok-stops.ensures c.as_slice.ensures.value c.ground.ensures c.options-options.ensures c.budget.ensures.budget c.seed.ensures c.strategy.ensures c.queue.ensures c.drawn.ensures c.requires.enabled h)
    (each_said (λ (ch : Choice). chosen word c.strategy.result (map live_of seen) queue c.drawn.result x.inner x.outer ≡ Some ch)
    (λ (ch : Choice). new ≡ old ++ why_lines word c.strategy.result (member g c.budget.result) seen queue x.inner c.drawn.result ch.event ch.place) c.write_selection.result c.write_selection.ensures)
