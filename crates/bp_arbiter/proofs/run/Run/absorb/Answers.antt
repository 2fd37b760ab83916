use Rattle.std.proofs.Common.{◌≡◌, sym, subst, Bool, OnOk}
use Rattle.bp_log.specs.declared.item.Item.{Item}
use Rattle.bp_floor.specs.declared.phase.Phase.{Phase}
use Rattle.bp_arbiter.specs.Absorb.{absorbed}
use Rattle.bp_arbiter.specs.Runs.{seen}
use Rattle.bp_arbiter.proofs.run.Run.absorb.Goals as goal

pub returns-in-Offered-clause-absorbed : goal.returns-in-Offered-clause-absorbed
returns-in-Offered-clause-absorbed c =
    subst (λ (x : Item). OnOk c.offer.result ((f : Phase) (b : Bool) → seen c.offer.new.self f b ≡ absorbed c.args.injector x (seen c.args.self.now f b))) (sym c.in-Offered.is) c.offer.ensures.absorbed
