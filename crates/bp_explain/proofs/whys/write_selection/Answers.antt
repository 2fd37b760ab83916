use Rattle.std.proofs.Common.{◌∙◌, ◌++◌, ℕ, List, append_assoc, length, map, nat_eq, ap, sym, string_bytes, Option, Some, None}
use Rattle.js_data.specs.Event.{PlainEvent}
use Rattle.std.proofs.lemmas.Result.{on_ok_weaker}
use Rattle.js_frames.specs.Places.{plain_ground}
use Rattle.bp_draw.specs.Words.{draw_word}
use Rattle.bp_meaning.specs.Membership.{member}
use Rattle.bp_run.specs.Choosing.{chosen}
use Rattle.bp_explain.specs.Stops.{live_of}
use Rattle.bp_explain.specs.Reasons.{candidate_lines, choice_lines, selected_lines}
use Rattle.bp_explain.proofs.Left.{is_drawn, is_queued}
use Rattle.bp_explain.proofs.whys.write_selection.Goals as goal

pub returns-then-not-is_empty : goal.returns-then-not-is_empty
returns-then-not-is_empty c = λ ch h.
    let s = c.args.draws in
    let has = member (plain_ground c.args.scene.now.ground.now) c.args.scene.now.budget in
    let ss = c.args.scene.now.stops.now in
    let queue = c.args.queue.now in
    let inner = c.as_slice-inner.result.now in
    let outer = c.args.enabled.now.outer in
    let is = c.as_slice-inner.ensures.value in
    let word = draw_word s.seed in
    let old = string_bytes c.args.text.now in
    let k = ap (λ (xs : List PlainEvent). chosen word s.strategy (map live_of ss) queue s.drawn xs outer) is ∙ h in
    let w = is_drawn word s.strategy (map live_of ss) queue inner s.drawn outer ch (sym c.is_empty.ensures ∙ c.if-not-is_empty.true) k in
    let said = λ (xs : List PlainEvent) (p : Option ℕ). choice_lines word s.strategy has ss queue xs s.drawn p ++ selected_lines has ss ch.event p in
    on_ok_weaker c.write_drawn.result
    (λ k.
    k
    ∙ ap (λ (t : List ℕ). t ++ said inner None) c.in_ok-write_candidates.ensures
    ∙ append_assoc old (candidate_lines has ss) (said inner None)
    ∙ ap (λ (p : Option ℕ). old ++ (candidate_lines has ss ++ said inner p)) (sym w.1)
    ∙ ap (λ (xs : List PlainEvent). old ++ (candidate_lines has ss ++ said xs ch.place)) is)
    (c.write_drawn.ensures ch.event w.0)

pub returns-in-Some : goal.returns-in-Some
returns-in-Some c = λ ch h.
    let s = c.args.draws in
    let has = member (plain_ground c.args.scene.now.ground.now) c.args.scene.now.budget in
    let ss = c.args.scene.now.stops.now in
    let queue = c.args.queue.now in
    let inner = c.args.enabled.now.inner.items in
    let word = draw_word s.seed in
    let old = string_bytes c.args.text.now in
    let place = c.in-Some.place in
    let k = ap (λ (o : Option ℕ). chosen word s.strategy (map live_of ss) queue s.drawn inner o) (sym c.in-Some.is) ∙ h in
    let w = is_queued word s.strategy (map live_of ss) queue inner s.drawn place ch (sym (c.is_empty.ensures ∙ ap (λ (xs : List PlainEvent). nat_eq (length xs) 0) c.as_slice-inner.ensures.value) ∙ c.if-not-is_empty.false) k in
    let said = λ (p : Option ℕ). choice_lines word s.strategy has ss queue inner s.drawn p ++ selected_lines has ss ch.event p in
    on_ok_weaker c.write_from_queue.result
    (λ k.
    k
    ∙ ap (λ (t : List ℕ). t ++ said (Some place)) c.in_ok-write_candidates.ensures
    ∙ append_assoc old (candidate_lines has ss) (said (Some place))
    ∙ ap (λ (p : Option ℕ). old ++ (candidate_lines has ss ++ said p)) (sym w.1))
    (c.write_from_queue.ensures ch.event w.0)
