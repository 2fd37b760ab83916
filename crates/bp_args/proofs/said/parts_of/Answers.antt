use Rattle.std.proofs.Common.{arith}
use Rattle.bp_args.proofs.Parts.{parts}
use Rattle.bp_args.proofs.said.parts_of.Goals as goal

pub returns : goal.returns
returns c = parts 61 c.args.word.now c.split_once.result c.split_once.ensures.cases (omega arith)
