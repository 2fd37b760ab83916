use Rattle.std.proofs.Common.{◌∙◌, List, map, ap, sym, subst}
use Rattle.bp_live.specs.declared.stated.Stated.{Stated}
use Rattle.bp_live.specs.Lists.{PlainList}
use Rattle.bp_live.specs.Lives.{live_of}
use Rattle.bp_live.specs.Places.{AreInOrder}
use Rattle.bp_live.proofs.Leaving.{none_gone}
use Rattle.bp_live.proofs.placing.StatedList.as_slice.Goals as goal

pub returns-clause-live : goal.returns-clause-live
returns-clause-live c =
    ap (λ (xs : List Stated). map live_of xs) c.as_slice.ensures.value
    ∙ sym (none_gone c.self.inside.items.items (sym c.self.invariant.gone ∙ ap (λ (l : PlainList). l.gone) c.self.view_is ∙ c.requires))
    ∙ ap (λ (l : PlainList). l.live) c.self.view_is

pub returns-clause-order : goal.returns-clause-order
returns-clause-order c = subst (λ (xs : List Stated). AreInOrder (map live_of xs)) (sym c.as_slice.ensures.value) c.self.invariant.order
