use Rattle.bp_answers.proofs.OneAnswer.{one_why}
use Rattle.bp_answers.proofs.laws.one_why.Goals as goal

pub returns : goal.returns
returns c = one_why
