use Rattle.js_meaning.proofs.Bound.{iterations_again}
use Rattle.js_meaning.proofs.laws.loops_iterate_again.Goals as goal

pub returns : goal.returns
returns c = iterations_again
