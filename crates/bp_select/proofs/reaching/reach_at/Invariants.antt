use Rattle.std.proofs.Common.{◌≤◌, drop, length}
use Rattle.js_frames.specs.Places.{plain_ground}
use Rattle.bp_meaning.specs.Membership.{member}
use Rattle.bp_sets.specs.Asked.{IsAbout}
use Rattle.bp_select.proofs.Finding.{ArePassed}
use Rattle.bp_select.proofs.TouchLemmas.{Reaches}
use Rattle.bp_select.proofs.reaching.reach_at.Given as goal

abbrev pub invariant-loop-place : goal.invariant-loop-place
invariant-loop-place l = record {
  reaches : Reaches (member (plain_ground l.ground) l.budget) l.event l.live (drop l.done l.live) l.reached.moved.items l.reached.interrupted.items;
  passed : ArePassed l.places l.place-index l.done (length l.live);
  within : l.done ≤ length l.live;
  about : IsAbout (plain_ground l.ground) l.budget l.event l.asked;
}
