use Rattle.std.proofs.Common.{map, take}
use Rattle.bp_select.specs.Tallies.{Each}
use Rattle.bp_live.specs.Lives.{live_of}
use Rattle.bp_select.proofs.TallyLemmas.{OthersPassAll}
use Rattle.bp_select.proofs.tally.is_alone.Given as goal

abbrev pub invariant-loop-event : goal.invariant-loop-event
invariant-loop-event l = Each (OthersPassAll l.stated.number (take l.event-index (live_of l.stated).statement.request)) (map live_of l.live)
