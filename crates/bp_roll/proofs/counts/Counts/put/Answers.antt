use Rattle.std.proofs.Common.{◌∙◌, ◌/◌, ◌<◌, ℕ, List, arith, length, subst, sym}
use Rattle.bp_roll.proofs.CountLemmas.{block_has, block_within, count_is, sums_set}
use Rattle.bp_roll.proofs.counts.Counts.put.Goals as goal

pub overflow_sub-others : goal.overflow_sub-others
overflow_sub-others c =
    let sums = c.self.inside.sums.items in
    let items = c.self.inside.items.items in
    let n = c.args.number in
    let low = subst (λ (xs : List ℕ). n < length xs) (sym c.self.view_is) c.requires in
    let h = block_has sums items n c.self.invariant low in
    let p = c.index.ensures ∙ count_is sums (n / 64) c.index.result.now (block_within sums items n c.self.invariant low) in
    let q = c.index-2.ensures ∙ count_is items n c.index-2.result.now low in
    omega (arith, h, p, q)

pub invariant_of-self : goal.invariant_of-self
invariant_of-self c =
    let sums = c.self.inside.sums.items in
    let items = c.self.inside.items.items in
    let n = c.args.number in
    let low = subst (λ (xs : List ℕ). n < length xs) (sym c.self.view_is) c.requires in
    let p = c.index.ensures ∙ count_is sums (n / 64) c.index.result.now (block_within sums items n c.self.invariant low) in
    let q = c.index-2.ensures ∙ count_is items n c.index-2.result.now low in
    let s = c.in-Some.ensures in
    sums_set sums items n c.args.count c.in-Some.sum c.self.invariant low (omega (arith, p, q, s))
