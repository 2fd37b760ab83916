use Rattle.std.proofs.Common.{◌≡◌, ◌++◌, List, drop, filter}
use Rattle.js_value.specs.Value.{PlainSet}
use Rattle.bp_run.specs.Selecting.{Live}
use Rattle.bp_run.specs.Choosing.{is_greatest}
use Rattle.bp_live.specs.Tops.{HaveTops}
use Rattle.bp_live.specs.Candidates.{events_in, tops_of}
use Rattle.bp_live.proofs.choosing.greatest.Given as goal

abbrev pub invariant-loop-candidate : goal.invariant-loop-candidate
invariant-loop-candidate l =
    record {
      events : (ts : List (Live PlainSet)) → HaveTops ts (tops_of l.inner) →
          (let p = is_greatest ts (events_in l.inner) in
          events_in l.kept.items ++ filter p (events_in (drop l.candidate-index l.inner)) ≡ filter p (events_in l.inner));
      tops : (ts : List (Live PlainSet)) → HaveTops ts (tops_of l.inner) → HaveTops ts (tops_of l.kept.items);
    }
