use Rattle.std.proofs.Common.{◌≡◌, ◌∙◌, Bool, false, [], ◌∷◌, ◌++◌, ap, sym, rules, if◌then◌else◌}
use Rattle.std.specs.List.{list_any}
use Rattle.std.proofs.lemmas.Result.{on_ok_weaker}
use Rattle.js_data.specs.Event.{same_event}
use Rattle.bp_explain.proofs.stops.note.Goals as goal

pub returns : goal.returns
returns c =
    let old = c.args.events.now.items in
    let e = c.args.event.now in
    let none : list_any (same_event e) old ≡ false = search rules in
    on_ok_weaker c.put.result (λ h. h ∙ sym (ap (λ (b : Bool). if b then old else old ++ e ∷ []) none)) c.put.ensures
