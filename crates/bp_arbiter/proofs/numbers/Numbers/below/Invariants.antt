use Rattle.std.proofs.Common.{◌≡◌}
use Rattle.bp_run.specs.Configuration.{below}
use Rattle.bp_arbiter.proofs.numbers.Numbers.below.Given as goal

abbrev pub invariant-loop-number : goal.invariant-loop-number
invariant-loop-number l = l.items.items ≡ below l.number
