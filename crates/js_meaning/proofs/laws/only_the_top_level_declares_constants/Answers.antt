use Rattle.js_meaning.proofs.Following.{eval_on_ground, body_on_ground}
use Rattle.js_meaning.proofs.laws.only_the_top_level_declares_constants.Goals as goal

pub returns-clause-node : goal.returns-clause-node
returns-clause-node c = eval_on_ground

pub returns-clause-body : goal.returns-clause-body
returns-clause-body c = body_on_ground
