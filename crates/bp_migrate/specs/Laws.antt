-- What is true of migrations.
use Rattle.std.specs.Prelude.{◌≡◌, ◌⊎◌, ℕ, List, Option, Result, Ok, Err}
use Rattle.bp_base.specs.Pieces.{Appends}
use Rattle.bp_log.specs.Header.{PlainHeader}
use Rattle.bp_log.specs.Logs.{log_text}
use Rattle.bp_log.specs.declared.version.Version.{Version}
use Rattle.bp_log.specs.declared.version.Version.TheVariants.{Second}
use Rattle.bp_log.specs.declared.record.Record.{Record}
use Rattle.bp_reading.specs.Laws.{IsLog}
use Rattle.bp_reader.specs.declared.fault.LogFault.TheVariants as log
use Rattle.bp_migrate.specs.declared.fault.MigrateFault.{MigrateFault}
use Rattle.bp_migrate.specs.declared.fault.MigrateFault.TheVariants.{Log, Write, Memory}
use Rattle.bp_migrate.specs.Migrations.{IsMigration}

-- reading or writing failed, or memory ran out
abbrev pub IsTrouble : Result (Unit {0}) MigrateFault → Type 0
IsTrouble (Err (Log log.Read)) = Unit {0}
IsTrouble (Err (Log log.Memory)) = Unit {0}
IsTrouble (Err Write) = Unit {0}
IsTrouble (Err Memory) = Unit {0}
IsTrouble _ = ⊥

-- the bytes are the log, of some version, of a header and a complete list of records
pub record IsSomeLog (bytes : List ℕ) : Type 0 where
  pub version : Version
  pub header : PlainHeader
  pub records : List Record
  pub log : IsLog version bytes header records

-- A log of either version migrates to its text of the second version.
abbrev pub LogsMigrate : Type 0
LogsMigrate =
    (version : Version) (bytes : List ℕ) (header : PlainHeader) (records : List Record)
    (before after : Option (List ℕ)) (ended : Result (Unit {0}) MigrateFault) →
    IsLog version bytes header records → IsMigration bytes before after ended →
    IsTrouble ended ⊎ ((ended ≡ Ok tt) × Appends before (log_text Second header records) after)

-- What migrates to its end is a log of one version, and its text of the second version was written.
abbrev pub OnlyLogsMigrate : Type 0
OnlyLogsMigrate =
    (bytes : List ℕ) (before after : Option (List ℕ)) → IsMigration bytes before after (Ok tt) →
    (l : IsSomeLog bytes) × Appends before (log_text Second l.header l.records) after

-- What a log migrates to is a log of the second version, of the same header and records.
abbrev pub MigratedAreLogs : Type 0
MigratedAreLogs =
    (version : Version) (bytes : List ℕ) (header : PlainHeader) (records : List Record) →
    IsLog version bytes header records →
    IsLog Second (log_text Second header records) header records

-- what was written each time is one text
abbrev pub WriteOne : Option (List ℕ) → Option (List ℕ) →
    Option (List ℕ) → Option (List ℕ) → Type 0
WriteOne before after other later =
    (text : List ℕ) × Appends before text after × Appends other text later

-- Two migrations of the same bytes end in the same way and write the same text, unless reading or
-- writing failed or memory ran out.
abbrev pub OneEnding : Type 0
OneEnding =
    (bytes : List ℕ) (before after other later : Option (List ℕ))
    (x y : Result (Unit {0}) MigrateFault) →
    IsMigration bytes before after x → IsMigration bytes other later y →
    IsTrouble x ⊎ (IsTrouble y ⊎ ((x ≡ y) × WriteOne before after other later))
