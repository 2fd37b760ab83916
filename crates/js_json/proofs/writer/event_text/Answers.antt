use Rattle.std.proofs.Common.{◌∙◌}
use Rattle.js_json.proofs.Law.{event_back}
use Rattle.js_json.proofs.Texts.{event_no_float, event_text_is}
use Rattle.js_json.proofs.writer.event_text.Goals as goal

pub returns : goal.returns
returns c =
    let e = c.args.event.now in
    let keeps = c.keeps.ensures in
    let written = rw c.in_ok-made.ensures at c.in_ok-to_string.ensures.text in
    let same = c.new.ensures ∙ written (event_no_float e keeps) ∙ event_text_is e keeps in
    record { text = same; reads_back = rw same (event_back e keeps) }
