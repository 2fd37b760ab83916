use Rattle.js_frames.proofs.Numbers.{statements_there}
use Rattle.js_frames.proofs.blocks.statements_of.Goals as goal

pub returns-in-Block-clause-nodes : goal.returns-in-Block-clause-nodes
returns-in-Block-clause-nodes c = statements_there (let b = c.args.base.now in b.program) c.args.sequence c.keeps.ensures

pub returns-in-Function-clause-nodes : goal.returns-in-Function-clause-nodes
returns-in-Function-clause-nodes c = statements_there (let b = c.args.base.now in b.program) c.args.sequence c.keeps.ensures

pub returns-in-Top-clause-nodes : goal.returns-in-Top-clause-nodes
returns-in-Top-clause-nodes c = statements_there (let b = c.args.base.now in b.program) c.args.sequence c.keeps.ensures
