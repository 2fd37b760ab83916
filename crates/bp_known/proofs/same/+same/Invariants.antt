use Rattle.std.proofs.Common.{◌≡◌, drop}
use Rattle.js_value.specs.Sizes.{set_size, sets_size}
use Rattle.js_value.specs.Views.{set_list_of}
use Rattle.bp_known.specs.Same.{same_sets}
use Rattle.bp_known.proofs.same.+same.Given as goal

abbrev pub decreases-same_set : goal.decreases-same_set
decreases-same_set l = set_size l.left.now

abbrev pub decreases-same_sets : goal.decreases-same_sets
decreases-same_sets l = sets_size (set_list_of l.left.now)

abbrev pub invariant-same_sets-loop-at : goal.invariant-same_sets-loop-at
invariant-same_sets-loop-at l =
    same_sets (set_list_of (drop l.at l.left)) (set_list_of (drop l.at l.right)) ≡ same_sets (set_list_of l.left) (set_list_of l.right)
