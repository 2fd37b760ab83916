use Rattle.bp_migrate.proofs.LogsMigrate.{only_logs_migrate}
use Rattle.bp_migrate.proofs.laws.only_logs_migrate.Goals as goal

pub returns : goal.returns
returns c = only_logs_migrate
