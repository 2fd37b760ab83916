use Rattle.std.proofs.Common.{◌∙◌, ◌&&◌, List, ap}
use Rattle.std.specs.List.{list_any}
use Rattle.bp_run.specs.Selecting.{requests, requested}
use Rattle.bp_live.specs.declared.stated.Stated.{Stated}
use Rattle.bp_live.specs.Lists.{PlainList}
use Rattle.bp_live.specs.Lives.{live_of}
use Rattle.bp_live.proofs.Leaving.{requested_one}
use Rattle.bp_live.proofs.placing.StatedList.requested.Goals as goal

pub returns : goal.returns
returns c =
    let e = c.args.event.now in
    c.is_requested.ensures
    ∙ ap (λ (xs : List Stated). list_any (λ t. t.here && requests e (live_of t)) xs) c.as_slice.ensures.value
    ∙ requested_one e c.self.inside.items.items
    ∙ ap (λ (l : PlainList). requested l.live e) c.self.view_is
