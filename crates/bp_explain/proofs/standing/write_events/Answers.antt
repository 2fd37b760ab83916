use Rattle.std.proofs.Common.{◌≡◌, ◌∙◌, ℕ, ◌≤◌, ◌++◌, Bool, List, [], append-nil, length, drop, string_bytes, refl, sym, ap}
use Rattle.std.proofs.Math.ListN.{drop_of_length-le}
use Rattle.js_data.specs.JsonText.{event_text as text_of_event}
use Rattle.bp_explain.specs.Listed.{listed_from}
use Rattle.bp_explain.proofs.standing.write_events.Goals as goal

-- at the end of a list no more is written
none_left : {A : Type 0} (later : Bool) (text : A → List ℕ) (xs : List A) (i : ℕ) → length xs ≤ i → listed_from later text (drop i xs) ≡ []
none_left later text xs i h = rw (drop_of_length-le xs h) refl

pub returns : goal.returns
returns c =
    let written = string_bytes c.loop-event.text in
    sym (append-nil written)
    ∙ ap (λ (rest : List ℕ). written ++ rest) (sym (none_left c.loop-event.later text_of_event c.args.events.now c.loop-event.event-index c.loop-event-test.false))
    ∙ c.loop-event.invariant
