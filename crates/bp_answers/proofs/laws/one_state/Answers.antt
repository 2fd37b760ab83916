use Rattle.bp_answers.proofs.OneAnswer.{one_state}
use Rattle.bp_answers.proofs.laws.one_state.Goals as goal

pub returns : goal.returns
returns c = one_state
