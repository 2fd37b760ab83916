use Rattle.bp_migrate.proofs.LogsMigrate.{migrated_are_logs}
use Rattle.bp_migrate.proofs.laws.migrated_are_logs.Goals as goal

pub returns : goal.returns
returns c = migrated_are_logs
