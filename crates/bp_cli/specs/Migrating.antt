-- Logs that are migrated.
use Rattle.std.specs.Prelude.{◌≡◌, ℕ, List, Result, Ok, Err, IfSome, IsSomeAnd, unwrap_or}
use Rattle.bp_replay.specs.declared.fault.ReplayFault.{ReplayFault}
use Rattle.bp_replay.specs.declared.fault.ReplayFault.TheVariants as replay
use Rattle.bp_migrate.specs.declared.fault.MigrateFault.{MigrateFault}
use Rattle.bp_migrate.specs.declared.fault.MigrateFault.TheVariants.{Log, Write, Memory}
use Rattle.bp_migrate.specs.Laws.{IsSomeLog}
use Rattle.bp_migrate.specs.Migrations.{IsMigration}
use Rattle.bp_cli.specs.declared.conclusion.Conclusion.{Conclusion}
use Rattle.bp_cli.specs.declared.conclusion.Conclusion.TheVariants.{BadLog, Migrated}
use Rattle.bp_cli.specs.Outside.{Outside}
use Rattle.bp_cli.specs.Replaying.{trouble_of}

-- a fault of a migration as one of a replay, which is told the same
abbrev pub as_replayed : MigrateFault → ReplayFault
as_replayed (Log fault) = replay.Log fault
as_replayed Write = replay.Write
as_replayed Memory = replay.Memory

-- how a command ends whose migration ended so
abbrev pub migrated_of : Result (Unit {0}) MigrateFault → Conclusion
migrated_of (Ok x) = Migrated
migrated_of (Err fault) = unwrap_or (trouble_of (as_replayed fault)) (BadLog (as_replayed fault))

-- the bytes are a log of some version where they were migrated, and none where the log is bad
abbrev pub IsJudged : List ℕ → Conclusion → Type 0
IsJudged bytes Migrated = IsSomeLog bytes
IsJudged bytes (BadLog fault) = ¬ IsSomeLog bytes
IsJudged bytes _ = Unit {0}

-- the command ends as a migration of the bytes that the world holds under the name, where it tells
-- them, which printed what a migration that ends so prints
pub record MigratesTo (name : List ℕ) (before after : Outside) (conclusion : Conclusion) : Type 0 where
  pub ended : Result (Unit {0}) MigrateFault
  pub is_conclusion : conclusion ≡ migrated_of ended
  pub ends : IfSome before.holds (λ held. IsSomeAnd (held name)
      (λ bytes. IsMigration bytes before.printed after.printed ended × IsJudged bytes conclusion))
  pub holds : after.holds ≡ before.holds
