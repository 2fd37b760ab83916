use Rattle.std.proofs.Common.{List, ℕ, sym, subst}
use Rattle.bp_roll.specs.Counting.{AreSums}
use Rattle.bp_roll.proofs.CountLemmas.{rest_next}
use Rattle.bp_roll.proofs.counts.Counts.spot_at.Goals as goal

pub loop-block-preserved : goal.loop-block-preserved
loop-block-preserved c =
    let sums = c.as_slice-together-items.result.now in
    let own = subst (λ (ys : List ℕ). AreSums ys c.self.inside.items.items) (sym c.as_slice-together-items.ensures.value) c.self.invariant in
    rest_next sums c.args.self.now c.loop-block.block c.loop-block.rest c.args.place (subst (λ (xs : List ℕ). AreSums sums xs) c.self.view_is own) c.loop-block-test.true c.if-rest-together.false c.loop-block.invariant
