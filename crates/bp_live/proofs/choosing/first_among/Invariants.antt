use Rattle.std.proofs.Common.{◌≡◌, drop, find}
use Rattle.bp_live.specs.Lives.{live_of}
use Rattle.bp_live.specs.Candidates.{is_among}
use Rattle.bp_live.proofs.choosing.first_among.Given as goal

abbrev pub invariant-loop-request : goal.invariant-loop-request
invariant-loop-request l = let rs = (live_of l.stated).statement.request in find (is_among l.events) rs ≡ find (is_among l.events) (drop l.request-index rs)
