use Rattle.std.proofs.Common.{map, drop}
use Rattle.js_frames.specs.Places.{plain_ground}
use Rattle.bp_floor.specs.inner.Entries.{entry_seen}
use Rattle.bp_floor.proofs.LoanLemmas.{Outgoing}
use Rattle.bp_floor.proofs.seats.Seats.lend.Given as goal

abbrev pub invariant-loop-entry : goal.invariant-loop-entry
invariant-loop-entry l = record { outgoing : Outgoing (plain_ground l.ground) l.options l.wave (map entry_seen (drop l.entry-index l.entries)) l.jobs.items l.fn.self l.self }
