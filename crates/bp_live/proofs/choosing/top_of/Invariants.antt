use Rattle.std.proofs.Common.{◌≡◌, ◌&&◌, ℤ, List, Option, drop}
use Rattle.std.specs.List.{list_all}
use Rattle.js_value.specs.Value.{PlainSet}
use Rattle.bp_run.specs.Selecting.{Live}
use Rattle.bp_run.specs.Choosing.{at_most, priority_of}
use Rattle.bp_live.specs.Tops.{HaveTops}
use Rattle.bp_live.specs.Candidates.{events_in, tops_of}
use Rattle.bp_live.proofs.choosing.top_of.Given as goal

abbrev pub invariant-loop-candidate : goal.invariant-loop-candidate
invariant-loop-candidate l =
    (ts : List (Live PlainSet)) → HaveTops ts (tops_of l.candidates) → (q : Option ℤ) →
    (at_most l.top q && list_all (λ e. at_most (priority_of ts e) q) (events_in (drop l.candidate-index l.candidates))) ≡ list_all (λ e. at_most (priority_of ts e) q) (events_in l.candidates)
