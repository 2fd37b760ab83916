use Rattle.std.proofs.Common.{List, ℕ, nat_eq, subst, sym}
use Rattle.std.specs.List.Sorted.{IsNonDecreasing}
use Rattle.std.proofs.lemmas.List.Sorted.{IsNonDecreasingBy-from_sort, list_any-IsPermutation, non_decreasing_from_is_sorted}
use Rattle.bp_select.proofs.heeds.in_order.Goals as goal

pub returns-then-is_sorted-clause-order : goal.returns-then-is_sorted-clause-order
returns-then-is_sorted-clause-order c =
    subst (λ (xs : List ℕ). IsNonDecreasing xs) c.as_slice.ensures.value
    (rw c.if-is_sorted.true at (non_decreasing_from_is_sorted c.as_slice.result.now c.is_sorted.result c.is_sorted.ensures.cases))

pub returns-clause-order : goal.returns-clause-order
returns-clause-order c = IsNonDecreasingBy-from_sort (λ x. x) c.sort.new.self.items c.in_ok-sort.ensures.sorted

pub returns-clause-same : goal.returns-clause-same
returns-clause-same c = λ i. sym (list_any-IsPermutation (nat_eq i) c.args.places.items c.sort.new.self.items c.sort.ensures.permutation)
