use Rattle.std.proofs.Common.{Ok, sym, ap, ◌∙◌, arith, rules}
use Rattle.bp_sets.proofs.Deciding.{set_below, or_then, next_of_any, none_of_any}
use Rattle.bp_sets.proofs.membership.+contains.Goals as goal

pub any_contains-contains_as-requires : goal.any_contains-contains_as-requires
any_contains-contains_as-requires t c =
    let below = set_below c.args.sets.now c.loop-set.set-index c.set-item.result c.loop-set-test.true c.set-item.is in
    (search (arith, below), c.loop-set.invariant.about)

pub any_contains-returns-in_err-contains_as-clause-tells : goal.any_contains-returns-in_err-contains_as-clause-tells
any_contains-returns-in_err-contains_as-clause-tells t c =
    rw (sym c.loop-set.invariant.left ∙ next_of_any _ _ _ _ _ _ c.loop-set-test.true c.set-item.is) (search rules)

pub any_contains-returns-then-branch-clause-tells : goal.any_contains-returns-then-branch-clause-tells
any_contains-returns-then-branch-clause-tells t c =
    sym c.loop-set.invariant.left ∙ next_of_any _ _ _ _ _ _ c.loop-set-test.true c.set-item.is ∙ ap (or_then _) (c.in_ok-contains_as.ensures.tells ∙ ap Ok c.if-branch.true)

pub any_contains-loop-set-preserved : goal.any_contains-loop-set-preserved
any_contains-loop-set-preserved t c = record {
  left = sym (next_of_any _ _ _ _ _ _ c.loop-set-test.true c.set-item.is ∙ ap (or_then _) (c.in_ok-contains_as.ensures.tells ∙ ap Ok c.if-branch.false)) ∙ c.loop-set.invariant.left;
  about = c.in_ok-contains_as.ensures.about;
}

pub any_contains-returns-clause-tells : goal.any_contains-returns-clause-tells
any_contains-returns-clause-tells t c = sym c.loop-set.invariant.left ∙ none_of_any _ _ _ c.args.sets.now c.loop-set.set-index c.loop-set-test.false
