-- What contracts see of the two ends of a view.
use Rattle.std.specs.Prelude.{Bool, List}
use Rattle.left_right.specs.Sides.{view}
use Rattle.bp_view.specs.declared.summary.Summary.{Summary}
use Rattle.bp_view.specs.declared.shower.Shower.{Shower}
use Rattle.bp_view.specs.declared.watcher.Watcher.{Watcher}

-- all summaries that were shown, in order
abbrev pub shown : Shower → List Summary
shown s = s.desk.desk.shown.value

-- whether memory ran out
abbrev pub has_failed : Shower → Bool
has_failed s = s.failed

-- all summaries that were seen, in order
abbrev pub seen : Watcher → List Summary
seen w = view w.glass.place
