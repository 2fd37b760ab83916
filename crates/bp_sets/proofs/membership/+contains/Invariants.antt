use Rattle.std.proofs.Common.{◌≡◌, drop}
use Rattle.js_value.specs.Sizes.{set_size, sets_size}
use Rattle.js_value.specs.Views.{set_list_of}
use Rattle.js_frames.specs.Places.{plain_ground}
use Rattle.bp_meaning.specs.Membership.{member_of_any}
use Rattle.bp_sets.specs.Asked.{IsAbout}
use Rattle.bp_sets.proofs.membership.+contains.Given as goal

abbrev pub decreases-contains_as : goal.decreases-contains_as
decreases-contains_as l = set_size l.set.now

abbrev pub decreases-any_contains : goal.decreases-any_contains
decreases-any_contains l = sets_size (set_list_of l.sets.now)

abbrev pub invariant-any_contains-loop-set : goal.invariant-any_contains-loop-set
invariant-any_contains-loop-set l = record {
  left : member_of_any (plain_ground l.ground) l.budget (set_list_of (drop l.set-index l.sets)) l.event ≡ member_of_any (plain_ground l.ground) l.budget (set_list_of l.sets) l.event;
  about : IsAbout (plain_ground l.ground) l.budget l.event l.asked;
}
