-- What the lending of jobs leaves.
use Rattle.std.proofs.Common.{◌≡◌, false, List, refl, ap, ◌∙◌, subst}
use Rattle.js_meaning.specs.Bodies.{Origin}
use Rattle.bp_run.specs.Settling.{Pair, before}
use Rattle.bp_thread.specs.declared.job.Job.{Job}
use Rattle.bp_floor.specs.declared.phase.Phase.TheVariants.{Ready}
use Rattle.bp_floor.specs.Loans.{AreLent, filled_pair, standing}
use Rattle.bp_floor.specs.Floors.{PlainFloor}
use Rattle.bp_arbiter.specs.declared.run.Run.{Run}
use Rattle.bp_arbiter.specs.Arbiters.{PlainArbiter, StandsFor}
use Rattle.bp_arbiter.specs.Lend.{AreOut}
use Rattle.bp_arbiter.specs.Runs.{seen}
use Rattle.bp_arbiter.specs.Sound.{IsStanding}
use Rattle.bp_arbiter.proofs.PickLemmas.{unfilled}
use Rattle.bp_arbiter.proofs.LendLemmas.{lent_out}
use Rattle.bp_arbiter.proofs.Turnings.{IsAt}

-- what the arbiter lends is out
pub lends : (a : PlainArbiter) (r : Run) (i : IsAt Ready a r) (g : PlainFloor) (jobs : List Job) → AreLent r.floor.base.program r.floor.options (standing r.floor.pair.stand.threads) r.floor.pair.entries jobs →
    filled_pair jobs g.pair ≡ r.floor.pair → g.base ≡ r.floor.base → g.options ≡ r.floor.options → (b : PlainArbiter) → b.floor ≡ g → AreOut b jobs
lends a r i g jobs l e base options b same =
    let v = seen r Ready false in
    let k : IsStanding v = (i.sound).standing refl in
    let s = subst (λ (js : List Job). StandsFor v js k.taken k.pair) (k.unlent refl) k.stands in
    lent_out v g jobs k.taken k.pair i.phased (s.floor ∙ ap (λ (q : Pair Origin). before k.taken q) (unfilled r.floor.pair)) s.calls l e base options b same
