use Rattle.bp_migrate.proofs.LogsMigrate.{logs_migrate}
use Rattle.bp_migrate.proofs.laws.logs_migrate.Goals as goal

pub returns : goal.returns
returns c = logs_migrate
