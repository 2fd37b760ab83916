use Rattle.std.proofs.Common.{◌≡◌, ◌+◌, take}
use Rattle.std.specs.Prelude.{sum}
use Rattle.bp_roll.proofs.counts.spot_from.Given as goal

abbrev pub invariant-loop-number : goal.invariant-loop-number
invariant-loop-number l = sum (take l.number l.items) + l.rest ≡ sum (take l.from l.items) + l.place
