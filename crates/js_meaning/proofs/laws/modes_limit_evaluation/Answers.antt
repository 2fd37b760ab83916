use Rattle.js_meaning.proofs.Following.{eval_answers, body_answers}
use Rattle.js_meaning.proofs.laws.modes_limit_evaluation.Goals as goal

pub returns-clause-node : goal.returns-clause-node
returns-clause-node c = eval_answers

pub returns-clause-body : goal.returns-clause-body
returns-clause-body c = body_answers
