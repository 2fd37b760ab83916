use Rattle.std.proofs.Common.{drop}
use Rattle.js_frames.specs.Places.{plain_ground}
use Rattle.bp_meaning.specs.Membership.{member}
use Rattle.bp_sets.specs.Asked.{IsAbout}
use Rattle.bp_select.proofs.TouchLemmas.{Reaches}
use Rattle.bp_select.proofs.reaching.reach.Given as goal

abbrev pub invariant-loop-stated : goal.invariant-loop-stated
invariant-loop-stated l = record {
  reaches : Reaches (member (plain_ground l.ground) l.budget) l.event l.live (drop l.stated-index l.live) l.reached.moved.items l.reached.interrupted.items;
  about : IsAbout (plain_ground l.ground) l.budget l.event l.asked;
}
