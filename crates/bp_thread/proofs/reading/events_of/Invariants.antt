use Rattle.std.proofs.Common.{◌≡◌, ◌++◌, drop, option_map}
use Rattle.js_value.specs.Views.{value_list_view}
use Rattle.bp_meaning.specs.Statements.{events_in}
use Rattle.bp_thread.proofs.reading.events_of.Given as goal

abbrev pub invariant-loop-item : goal.invariant-loop-item
invariant-loop-item l = option_map (λ es. l.events ++ es) (events_in (value_list_view (drop l.item-index l.item-items))) ≡ events_in (value_list_view l.item-items)
