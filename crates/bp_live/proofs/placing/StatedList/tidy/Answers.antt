use Rattle.std.proofs.Common.{◌∙◌, ap}
use Rattle.bp_live.specs.Lists.{PlainList}
use Rattle.bp_live.proofs.Leaving.{tidy_counted, tidy_same}
use Rattle.bp_live.proofs.placing.StatedList.tidy.Goals as goal

pub invariant_of-self : goal.invariant_of-self
invariant_of-self c = tidy_counted c.self.inside.items.items c.clear.new.items.items c.self.inside.gone c.clear.ensures c.self.invariant

pub returns-then-self-gt0-clause-same : goal.returns-then-self-gt0-clause-same
returns-then-self-gt0-clause-same c =
    tidy_same c.self.inside.items.items c.clear.new.items.items c.clear.ensures ∙ ap (λ (l : PlainList). l.live) c.self.view_is
