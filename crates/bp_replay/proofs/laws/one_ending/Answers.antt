use Rattle.bp_replay.proofs.OneEnding.{one_ending}
use Rattle.bp_replay.proofs.laws.one_ending.Goals as goal

pub returns : goal.returns
returns c = one_ending
