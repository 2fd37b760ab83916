use Rattle.bp_migrate.proofs.LogsMigrate.{one_ending}
use Rattle.bp_migrate.proofs.laws.one_ending.Goals as goal

pub returns : goal.returns
returns c = one_ending
