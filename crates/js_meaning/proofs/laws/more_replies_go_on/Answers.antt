use Rattle.js_meaning.proofs.Replies.{eval_goes_on, body_goes_on}
use Rattle.js_meaning.proofs.laws.more_replies_go_on.Goals as goal

pub returns-clause-node : goal.returns-clause-node
returns-clause-node c = eval_goes_on

pub returns-clause-body : goal.returns-clause-body
returns-clause-body c = body_goes_on
