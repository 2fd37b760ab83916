use Rattle.std.proofs.Common.{◌≡◌, ◌∙◌, ◌++◌, ℕ, List, append_assoc, ap, string_bytes, Some}
use Rattle.std.specs.Prelude.{codes}
use Rattle.std.proofs.lemmas.Option.{get_or_from_slice_get}
use Rattle.std.proofs.lemmas.Result.{on_ok_weaker}
use Rattle.js_data.specs.Event.{PlainEvent}
use Rattle.js_frames.specs.Places.{plain_ground}
use Rattle.bp_meaning.specs.Membership.{member}
use Rattle.bp_explain.specs.Reasons.{passed_lines, selected_from, selected_lines}
use Rattle.bp_explain.proofs.whys.write_from_queue.Goals as goal

pub returns : goal.returns
returns c = λ e h.
    let has = member (plain_ground c.args.scene.now.ground.now) c.args.scene.now.budget in
    let ss = c.args.scene.now.stops.now in
    let queue = c.args.queue.now in
    let place = c.args.place in
    let old = string_bytes c.args.text.now in
    let r = c.index-queue-place.result in
    let same : r ≡ e = c.index-queue-place.is ∙ get_or_from_slice_get queue place e r h in
    on_ok_weaker c.write_selected.result
    (λ k.
    k
    ∙ ap (λ (t : List ℕ). t ++ selected_from has ss r (codes ", from the queue")) c.in_ok-write_all_passed.ensures
    ∙ append_assoc old (passed_lines has ss queue place) (selected_from has ss r (codes ", from the queue"))
    ∙ ap (λ (x : PlainEvent). old ++ (passed_lines has ss queue place ++ selected_lines has ss x (Some place))) same)
    c.write_selected.ensures
