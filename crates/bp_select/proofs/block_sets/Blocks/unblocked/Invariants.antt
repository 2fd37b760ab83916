use Rattle.std.proofs.Common.{◌≡◌, List, map, drop}
use Rattle.js_value.specs.Value.{PlainSet}
use Rattle.js_frames.specs.Places.{plain_ground}
use Rattle.bp_meaning.specs.Membership.{member}
use Rattle.bp_run.specs.Selecting.{Live, unblocked}
use Rattle.bp_known.specs.Known.{AreKnown, sets_in}
use Rattle.bp_live.specs.Lives.{lent}
use Rattle.bp_live.specs.Tops.{HaveTops}
use Rattle.bp_live.specs.Candidates.{events_in, tops_of}
use Rattle.bp_select.proofs.Questions.{behind}
use Rattle.bp_select.proofs.block_sets.Blocks.unblocked.Given as goal

abbrev pub invariant-loop-candidate : goal.invariant-loop-candidate
invariant-loop-candidate l =
    let asked = unblocked (member (plain_ground l.ground) l.budget) (map lent l.blocking) in
    record {
      events : asked (events_in l.candidates) ≡ behind (events_in l.free.items) (asked (events_in (drop l.candidate-index l.candidates)));
      tops : (ts : List (Live PlainSet)) → HaveTops ts (tops_of l.candidates) → HaveTops ts (tops_of l.free.items);
      known : AreKnown (plain_ground l.ground) l.budget (sets_in l.fn.self.sets) l.self.told;
      sets : l.self.sets ≡ l.fn.self.sets;
    }
