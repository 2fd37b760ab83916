-- What is true of replays.
use Rattle.std.specs.Prelude.{◌≡◌, ◌⊎◌, ℕ, true, List, [], Option, Some, Result, Ok, Err}
use Rattle.js_program.specs.PlainProgram.{PlainProgram}
use Rattle.bp_base.specs.Pieces.{Appends}
use Rattle.bp_log.specs.Header.{PlainHeader}
use Rattle.bp_log.specs.Logs.{can_say, log_text}
use Rattle.bp_log.specs.Records.{verdict_of}
use Rattle.bp_log.specs.declared.version.Version.{Version}
use Rattle.bp_log.specs.declared.record.Record.{Record}
use Rattle.bp_log.specs.declared.verdict.Verdict.{Verdict}
use Rattle.bp_reading.specs.Reading.{first_stage}
use Rattle.bp_reading.specs.Laws.{IsHeader, AreRecords, Stands}
use Rattle.bp_reader.specs.declared.fault.LogFault.TheVariants as log
use Rattle.bp_script.specs.Programs.{IsProgram}
use Rattle.bp_code.specs.Code.{text_of}
use Rattle.bp_migrate.specs.declared.fault.MigrateFault.{MigrateFault}
use Rattle.bp_migrate.specs.Copies.{IsAtItsEnd}
use Rattle.bp_migrate.specs.Migrations.{IsMigration}
use Rattle.bp_replay.specs.declared.fault.ReplayFault.{ReplayFault}
use Rattle.bp_replay.specs.declared.fault.ReplayFault.TheVariants.{Log, Differs, Program, Write, Memory}
use Rattle.bp_replay.specs.Replays.{IsReplay}

-- reading or writing failed, or memory ran out
abbrev pub IsTrouble : Result Verdict ReplayFault → Type 0
IsTrouble (Ok v) = ⊥
IsTrouble (Err (Log log.Version)) = ⊥
IsTrouble (Err (Log log.Header)) = ⊥
IsTrouble (Err (Log (log.Line n))) = ⊥
IsTrouble (Err (Log log.Cut)) = ⊥
IsTrouble (Err (Log log.Read)) = Unit {0}
IsTrouble (Err (Log log.Memory)) = Unit {0}
IsTrouble (Err (Differs number expected other)) = ⊥
IsTrouble (Err Program) = ⊥
IsTrouble (Err Write) = Unit {0}
IsTrouble (Err Memory) = Unit {0}

-- the bytes are the log, of this version, of a run of this program, which has this text
pub record IsLogOf (version : Version) (bytes : List ℕ) (header : PlainHeader)
    (records : List Record) (program : PlainProgram) (text : List ℕ) : Type 0 where
  pub bytes_are : bytes ≡ log_text version header records
  pub says_so : can_say version header.options.wait ≡ true
  pub header_is : IsHeader header
  pub records_are : AreRecords records
  pub stands : Stands (first_stage version header.options.injectors) records
  pub program_is : IsProgram header.program program
  pub text_is : text_of program header.options records ≡ Some text

-- the text was written, and the answer is the verdict of the records
pub record TellsAll (records : List Record) (text : List ℕ) (before after : Option (List ℕ))
    (ended : Result Verdict ReplayFault) : Type 0 where
  pub verdict : Verdict
  pub ended_is : ended ≡ Ok verdict
  pub verdict_is : verdict_of records ≡ Some verdict
  pub prints : Appends before text after

-- A replay of the log of a run tells the run: its whole text and its verdict.
abbrev pub ReplaysTellTheRun : Type 0
ReplaysTellTheRun =
    (version : Version) (bytes : List ℕ) (header : PlainHeader) (records : List Record)
    (program : PlainProgram) (text : List ℕ) (before after : Option (List ℕ))
    (ended : Result Verdict ReplayFault) →
    IsLogOf version bytes header records program text → IsReplay bytes before after ended →
    IsTrouble ended ⊎ TellsAll records text before after ended

-- each replay of these bytes prints this text and answers this verdict, unless reading or writing
-- failed or memory ran out
abbrev pub Retells : List ℕ → List ℕ → Verdict → Type 0
Retells bytes text verdict =
    (before after : Option (List ℕ)) (ended : Result Verdict ReplayFault) →
    IsReplay bytes before after ended →
    IsTrouble ended ⊎ ((ended ≡ Ok verdict) × Appends before text after)

-- The log, of either version, of a complete story of an accepted program replays to the text and the
-- verdict of that story, whatever its injectors. Of its records no more is asked than what records keep
-- by their types.
abbrev pub LogsOfStoriesReplay : Type 0
LogsOfStoriesReplay =
    (version : Version) (header : PlainHeader) (program : PlainProgram) (records : List Record)
    (text : List ℕ) (verdict : Verdict) →
    can_say version header.options.wait ≡ true → IsHeader header →
    IsProgram header.program program → AreRecords records →
    text_of program header.options records ≡ Some text → verdict_of records ≡ Some verdict →
    Retells (log_text version header records) text verdict

-- what was printed each time is one text
abbrev pub PrintOne : Option (List ℕ) → Option (List ℕ) →
    Option (List ℕ) → Option (List ℕ) → Type 0
PrintOne before after other later =
    (text : List ℕ) × Appends before text after × Appends other text later

-- Two replays of the same bytes end in the same way and print the same text, unless reading or writing
-- failed or memory ran out.
abbrev pub OneEnding : Type 0
OneEnding =
    (bytes : List ℕ) (before after other later : Option (List ℕ))
    (x y : Result Verdict ReplayFault) →
    IsReplay bytes before after x → IsReplay bytes other later y →
    IsTrouble x ⊎ (IsTrouble y ⊎ ((x ≡ y) × PrintOne before after other later))

-- The bytes of a log that is whole or cut, and what a migration makes of them, replay alike: they end in
-- the same way and print the same text, unless reading or writing failed or memory ran out.
abbrev pub ReplaysAlike : Type 0
ReplaysAlike =
    (bytes copied : List ℕ) (migrated : Result (Unit {0}) MigrateFault)
    (before after other later : Option (List ℕ)) (x y : Result Verdict ReplayFault) →
    IsMigration bytes (Some []) (Some copied) migrated → IsAtItsEnd migrated →
    IsReplay bytes before after x → IsReplay copied other later y →
    IsTrouble x ⊎ (IsTrouble y ⊎ ((x ≡ y) × PrintOne before after other later))
