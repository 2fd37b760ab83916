use Rattle.std.proofs.Common.{◌≡◌, ◌++◌, drop}
use Rattle.bp_live.specs.Candidates.{events_in}
use Rattle.bp_select.proofs.selecting.copies.Given as goal

abbrev pub invariant-loop-candidate : goal.invariant-loop-candidate
invariant-loop-candidate l = l.events.items ++ events_in (drop l.candidate-index l.candidates) ≡ events_in l.candidates
