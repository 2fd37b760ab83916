use Rattle.std.proofs.Common.{◌≡◌, ◌++◌, List, map, drop, filter}
use Rattle.std.specs.List.{list_any}
use Rattle.js_data.specs.Event.{PlainEvent}
use Rattle.js_value.specs.Value.{PlainSet}
use Rattle.bp_run.specs.Selecting.{Live}
use Rattle.bp_run.specs.Choosing.{is_first_of}
use Rattle.bp_live.specs.Lives.{lent}
use Rattle.bp_live.specs.Candidates.{events_in, tops_of}
use Rattle.bp_live.specs.Tops.{HaveTops}
use Rattle.bp_live.proofs.choosing.ordered.Given as goal

abbrev pub invariant-loop-candidate : goal.invariant-loop-candidate
invariant-loop-candidate l =
    let p = λ (e : PlainEvent). list_any (is_first_of (events_in l.inner) e) (map lent l.asking) in
    record {
      events : events_in l.kept.items ++ filter p (events_in (drop l.candidate-index l.inner)) ≡ filter p (events_in l.inner);
      tops : (ts : List (Live PlainSet)) → HaveTops ts (tops_of l.inner) → HaveTops ts (tops_of l.kept.items);
    }
