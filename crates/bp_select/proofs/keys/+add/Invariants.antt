use Rattle.std.proofs.Common.{◌≡◌, ℕ, true}
use Rattle.js_value.specs.Sizes.{set_size, sets_size}
use Rattle.js_value.specs.Views.{set_list_of}
use Rattle.bp_roll.specs.Rolls.{is_in}
use Rattle.bp_select.proofs.HeedLemmas.{HaveKeys}
use Rattle.bp_select.proofs.keys.+add.Given as goal

abbrev pub decreases-add_set : goal.decreases-add_set
decreases-add_set l = set_size l.set.now

abbrev pub decreases-add_sets : goal.decreases-add_sets
decreases-add_sets l = sets_size (set_list_of l.sets.now)

abbrev pub invariant-add_sets-loop-set : goal.invariant-add_sets-loop-set
invariant-add_sets-loop-set l = record {
  sets : HaveKeys l.sets l.set-index l.keys.items;
  others : (k : ℕ) → is_in k l.initial.keys.items ≡ true → is_in k l.keys.items ≡ true;
}
