use Rattle.std.proofs.Common.{◌∙◌, ◌^◌, List, ℕ, sym, subst}
use Rattle.bp_roll.specs.Counting.{AreSums}
use Rattle.bp_roll.proofs.CountLemmas.{total_next, total_over}
use Rattle.bp_roll.proofs.counts.Counts.total.Goals as goal

pub returns-in_err-total-clause-none : goal.returns-in_err-total-clause-none
returns-in_err-total-clause-none c = λ e.
    let sums = c.as_slice-together-items.result.now in
    let own = subst (λ (ys : List ℕ). AreSums ys c.self.inside.items.items) (sym c.as_slice-together-items.ensures.value) c.self.invariant in
    total_over sums c.args.self.now c.loop-together.together-index c.loop-together.total (2 ^ 64) (subst (λ (xs : List ℕ). AreSums sums xs) c.self.view_is own) c.loop-together-test.true c.loop-together.invariant c.in_err-total.ensures

pub loop-together-preserved : goal.loop-together-preserved
loop-together-preserved c =
    let sums = c.as_slice-together-items.result.now in
    let own = subst (λ (ys : List ℕ). AreSums ys c.self.inside.items.items) (sym c.as_slice-together-items.ensures.value) c.self.invariant in
    c.in_ok-total.ensures.1
    ∙ total_next sums c.args.self.now c.loop-together.together-index c.loop-together.total (subst (λ (xs : List ℕ). AreSums sums xs) c.self.view_is own) c.loop-together-test.true c.loop-together.invariant
