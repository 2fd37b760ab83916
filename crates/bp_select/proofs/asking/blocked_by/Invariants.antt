use Rattle.std.proofs.Common.{◌≡◌, ℕ, Some, map, drop, is_some}
use Rattle.js_frames.specs.Places.{plain_ground}
use Rattle.bp_meaning.specs.Membership.{member}
use Rattle.bp_run.specs.Selecting.{blocked}
use Rattle.bp_sets.specs.Asked.{IsAbout}
use Rattle.bp_live.specs.Lives.{lent}
use Rattle.bp_select.proofs.Questions.{seen}
use Rattle.bp_select.proofs.Telling.{Has_it}
use Rattle.bp_select.proofs.asking.blocked_by.Given as goal

abbrev pub invariant-loop-stated : goal.invariant-loop-stated
invariant-loop-stated l =
    let has = member (plain_ground l.ground) l.budget in
    record {
      asked : blocked has (map lent l.blocking) l.event ≡ seen (is_some l.by) (blocked has (map lent (drop l.stated-index l.blocking)) l.event);
      witness : (n : ℕ) → l.by ≡ Some n → Has_it (plain_ground l.ground) l.budget l.event (map lent l.blocking) n;
      about : IsAbout (plain_ground l.ground) l.budget l.event l.asked;
    }
