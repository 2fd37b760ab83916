use Rattle.bp_seeds.proofs.AddingUp.{counts_add_up}
use Rattle.bp_seeds.proofs.laws.counts_add_up.Goals as goal

pub returns : goal.returns
returns c = counts_add_up
