use Rattle.std.proofs.Common.{◌≡◌, ◌∙◌, ◌++◌, List, ℕ, append_assoc, ap, string_bytes, Ok, Err, OnOk}
use Rattle.std.specs.Prelude.{Result, codes, is_ok, if◌then◌else◌}
use Rattle.std.proofs.lemmas.Result.{on_ok_weaker}
use Rattle.js_data.specs.JsonText.{quoted_text}
use Rattle.js_frames.specs.Places.{plain_ground}
use Rattle.bp_meaning.specs.Membership.{member}
use Rattle.bp_explain.specs.Listed.{listed}
use Rattle.bp_explain.specs.Stops.{blocker_names}
use Rattle.bp_explain.proofs.rest.write_blocked_by.Goals as goal

-- where it was pushed, it stands there
pushed : {T E : Type 0} (r : Result T E) (new more old : List ℕ) → new ≡ (if is_ok r then more else old) → OnOk r (new ≡ more)
pushed (Ok t) new more old h = h
pushed (Err e) new more old h = tt

pub returns : goal.returns
returns c =
    let old = string_bytes c.args.text.now in
    let words = codes ", is blocked by " in
    let end = codes "\n" in
    let has = member (plain_ground c.args.rest.now.ground.now) c.args.rest.now.budget in
    let names = listed quoted_text (blocker_names has c.args.rest.now.stops.now c.args.event.now) in
    on_ok_weaker c.push_str-2.result
    (λ h.
    h
    ∙ ap (λ (t : List ℕ). t ++ end) (c.in_ok-write_blockers.ensures ∙ ap (λ (t : List ℕ). t ++ names) c.in_ok-push_str.ensures.bytes)
    ∙ append_assoc (old ++ words) names end
    ∙ append_assoc old words (names ++ end))
    (pushed c.push_str-2.result _ _ _ c.push_str-2.ensures.bytes)
