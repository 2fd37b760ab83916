use Rattle.std.proofs.Common.{◌≡◌, drop}
use Rattle.js_value.specs.Views.{value_list_view}
use Rattle.bp_known.specs.Same.{same_leaves}
use Rattle.bp_known.proofs.same.same_leaves.Given as goal

abbrev pub invariant-loop-at : goal.invariant-loop-at
invariant-loop-at l = same_leaves (value_list_view (drop l.at l.left)) (value_list_view (drop l.at l.right)) ≡ same_leaves (value_list_view l.left) (value_list_view l.right)
