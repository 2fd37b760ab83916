use Rattle.std.proofs.Common.{◌≡◌, ◌+◌, ◌*◌, take}
use Rattle.std.specs.Prelude.{sum}
use Rattle.bp_roll.proofs.counts.Counts.spot_at.Given as goal

abbrev pub invariant-loop-block : goal.invariant-loop-block
invariant-loop-block l = sum (take (64 * l.block) l.self) + l.rest ≡ l.place
