use Rattle.std.proofs.Common.{ℕ}
use Rattle.js_meaning.specs.State.{Ground}
use Rattle.bp_select.specs.Benches.{Fits}
use Rattle.test_arbiter.proofs.bench.place_all.Given as goal

abbrev pub invariant-loop-line : goal.invariant-loop-line
invariant-loop-line l = (base : Ground) (budget : ℕ) → Fits l.fn.made base budget → Fits l.made base budget
