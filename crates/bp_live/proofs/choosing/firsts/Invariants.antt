use Rattle.std.proofs.Common.{◌≡◌, ◌||◌, map}
use Rattle.std.specs.List.{list_any}
use Rattle.js_data.specs.Event.{PlainEvent}
use Rattle.bp_live.specs.Lives.{lent}
use Rattle.bp_live.specs.Candidates.{is_among, is_first}
use Rattle.bp_live.proofs.Firsts.{any_later}
use Rattle.bp_live.proofs.choosing.firsts.Given as goal

abbrev pub invariant-loop-stated : goal.invariant-loop-stated
invariant-loop-stated l =
    (e : PlainEvent) → (is_among l.firsts e || any_later lent (is_first (is_among l.events) e) l.stated-index l.asking) ≡ list_any (is_first (is_among l.events) e) (map lent l.asking)
