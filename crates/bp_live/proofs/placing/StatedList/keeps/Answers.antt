use Rattle.std.proofs.Common.{ap, List, subst}
use Rattle.js_value.specs.Value.{PlainSet}
use Rattle.bp_run.specs.Selecting.{Live}
use Rattle.bp_live.specs.Lists.{PlainList}
use Rattle.bp_live.specs.Places.{AreInOrder}
use Rattle.bp_live.proofs.Leaving.{order_live}
use Rattle.bp_live.proofs.placing.StatedList.keeps.Goals as goal

pub returns : goal.returns
returns c =
    subst (λ (ts : List (Live PlainSet)). AreInOrder ts) (ap (λ (l : PlainList). l.live) c.self.view_is) (order_live c.self.inside.items.items c.self.invariant.order)
