use Rattle.std.proofs.Common.{◌∙◌, ◌<◌, ℕ, List, Option, IfSome, length, drop, remove, sym, ap, subst, arith}
use Rattle.std.proofs.lemmas.List.{length-drop}
use Rattle.js_data.specs.Event.{PlainEvent}
use Rattle.bp_run.specs.Story.{without}
use Rattle.bp_floor.proofs.Queue.{later_remove}
use Rattle.bp_floor.proofs.events.EventList.without.Goals as goal

pub returns-else-place-eq0 : goal.returns-else-place-eq0
returns-else-place-eq0 c =
    let g = c.self.inside.gone in
    let xs = c.self.inside.items.items in
    let p = c.in-Some.place in
    let low = subst (λ (ys : List PlainEvent). p < length ys) (sym c.self.view_is) (subst (λ (o : Option ℕ). IfSome o (λ (i : ℕ). i < length c.args.self.now)) c.in-Some.is c.requires) in
    let l = length-drop g xs in
    ap (λ (ys : List PlainEvent). drop g ys) c.remove-event.ensures.items ∙ later_remove g p xs (omega (arith, low, l)) ∙ ap (λ (ys : List PlainEvent). remove ys p) c.self.view_is
    ∙ ap (λ (o : Option ℕ). without c.args.self.now o) (sym c.in-Some.is)
