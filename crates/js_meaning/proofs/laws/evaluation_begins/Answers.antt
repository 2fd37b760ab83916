use Rattle.js_meaning.proofs.Bound.{eval_begins}
use Rattle.js_meaning.proofs.laws.evaluation_begins.Goals as goal

pub returns : goal.returns
returns c = eval_begins
