use Rattle.std.proofs.Common.{◌∙◌, List, drop, sym, ap}
use Rattle.std.proofs.lemmas.List.{drop-drop}
use Rattle.js_data.specs.Event.{PlainEvent}
use Rattle.bp_floor.proofs.events.EventList.pass.Goals as goal

pub returns-then-self-len : goal.returns-then-self-len
returns-then-self-len c =
    c.clear.ensures ∙ sym (drop-drop 1 c.self.inside.gone c.self.inside.items.items) ∙ ap (λ (xs : List PlainEvent). drop 1 xs) c.self.view_is

pub returns-else-self-len : goal.returns-else-self-len
returns-else-self-len c = sym (drop-drop 1 c.self.inside.gone c.self.inside.items.items) ∙ ap (λ (xs : List PlainEvent). drop 1 xs) c.self.view_is
