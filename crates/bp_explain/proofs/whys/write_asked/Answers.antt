use Rattle.std.proofs.Common.{◌∙◌, ◌++◌, ℕ, List, append_assoc, ap, string_bytes}
use Rattle.std.specs.Prelude.{codes}
use Rattle.std.proofs.lemmas.Result.{on_ok_weaker}
use Rattle.js_data.specs.JsonText.{event_text}
use Rattle.js_frames.specs.Places.{plain_ground}
use Rattle.bp_meaning.specs.Membership.{member}
use Rattle.bp_explain.specs.Stops.{requester_names}
use Rattle.bp_explain.specs.Reasons.{held_words, listed_or_nobody}
use Rattle.bp_explain.proofs.whys.write_asked.Goals as goal

pub returns : goal.returns
returns c =
    let old = string_bytes c.args.text.now in
    let head = codes "event " in
    let words = event_text c.args.event.now in
    let asked = codes ", requested by " in
    let names = listed_or_nobody (requester_names c.args.scene.now.stops.now c.args.event.now) in
    let held = held_words (member (plain_ground c.args.scene.now.ground.now) c.args.scene.now.budget) c.args.scene.now.stops.now c.args.event.now in
    on_ok_weaker c.write_held.result
    (λ h.
    h
    ∙ ap (λ (t : List ℕ). t ++ held)
    (c.in_ok-write_requesters.ensures
    ∙ ap (λ (t : List ℕ). t ++ names) (c.in_ok-push_str-2.ensures.bytes ∙ ap (λ (t : List ℕ). t ++ asked) (c.in_ok-write_event.ensures ∙ ap (λ (t : List ℕ). t ++ words) c.in_ok-push_str.ensures.bytes)))
    ∙ append_assoc (((old ++ head) ++ words) ++ asked) names held
    ∙ append_assoc ((old ++ head) ++ words) asked (names ++ held)
    ∙ append_assoc (old ++ head) words (asked ++ (names ++ held))
    ∙ append_assoc old head (words ++ (asked ++ (names ++ held))))
    c.write_held.ensures
