use Rattle.js_meaning.proofs.Bound.{went_fewer}
use Rattle.js_meaning.proofs.Following.{eval_follows, body_follows}
use Rattle.js_meaning.proofs.laws.evaluation_goes_on.Goals as goal

pub returns-clause-node : goal.returns-clause-node
returns-clause-node c = eval_follows

pub returns-clause-body : goal.returns-clause-body
returns-clause-body c = body_follows

pub returns-clause-fewer : goal.returns-clause-fewer
returns-clause-fewer c = went_fewer
