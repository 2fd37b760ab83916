use Rattle.std.proofs.Common.{◌≡◌, ℕ, List, drop}
use Rattle.js_meaning.specs.State.{Ground}
use Rattle.js_value.specs.Value.{PlainSet}
use Rattle.bp_meaning.specs.Membership.{member}
use Rattle.bp_run.specs.Selecting.{Live, unblocked}
use Rattle.bp_known.specs.Known.{AreKnown, sets_in}
use Rattle.bp_select.specs.Blocks.{AreOf}
use Rattle.bp_live.specs.Candidates.{events_in, tops_of}
use Rattle.bp_live.specs.Places.{AreInOrder}
use Rattle.bp_live.specs.Tops.{HaveTops}
use Rattle.bp_select.proofs.Questions.{behind}
use Rattle.bp_select.proofs.block_sets.Blocks.known_free.Given as goal

abbrev pub invariant-loop-candidate : goal.invariant-loop-candidate
invariant-loop-candidate l = record {
  free :
      (base : Ground) (budget : ℕ) → AreKnown base budget (sets_in l.self.sets) l.self.told → (ts : List (Live PlainSet)) → AreInOrder ts → AreOf ts (sets_in l.self.sets) →
      let asked = unblocked (member base budget) ts in asked (events_in l.candidates) ≡ behind (events_in l.free.items) (asked (events_in (drop l.candidate-index l.candidates)));
  tops : (ts : List (Live PlainSet)) → HaveTops ts (tops_of l.candidates) → HaveTops ts (tops_of l.free.items);
}
