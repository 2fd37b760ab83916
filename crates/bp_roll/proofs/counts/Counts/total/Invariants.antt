use Rattle.std.proofs.Common.{◌≡◌, ◌*◌, take}
use Rattle.std.specs.Prelude.{sum}
use Rattle.bp_roll.proofs.counts.Counts.total.Given as goal

abbrev pub invariant-loop-together : goal.invariant-loop-together
invariant-loop-together l = l.total ≡ sum (take (64 * l.together-index) l.self)
