use Rattle.bp_pool.proofs.Rules.{all_held}
use Rattle.bp_pool.proofs.laws.all_are_in_the_last_hand.Goals as goal

pub returns : goal.returns
returns c = all_held
