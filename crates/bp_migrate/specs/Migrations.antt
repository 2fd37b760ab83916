-- What a migration of the bytes of a log writes, and how it ends.
use Rattle.std.specs.Prelude.{◌≡◌, ◌⊎◌, ℕ, List, ◌++◌, Option, Result, Ok, Err}
use Rattle.bp_base.specs.Pieces.{Appends, AppendsFront}
use Rattle.bp_log.specs.Header.{PlainHeader}
use Rattle.bp_log.specs.Logs.{log_text}
use Rattle.bp_log.specs.declared.version.Version.{Version}
use Rattle.bp_log.specs.declared.version.Version.TheVariants.{Second}
use Rattle.bp_log.specs.declared.record.Record.{Record}
use Rattle.bp_reading.specs.Heads.{header_at}
use Rattle.bp_reading.specs.Reading.{Stage, BeginsWith, first_stage}
use Rattle.bp_reader.specs.Gets.{MeansRead}
use Rattle.bp_migrate.specs.declared.fault.MigrateFault.{MigrateFault}
use Rattle.bp_migrate.specs.declared.fault.MigrateFault.TheVariants.{Log, Write, Memory}
use Rattle.bp_migrate.specs.Copies.{EndsAt, IsAtItsEnd}

-- the text was written; where memory ran out or writing failed, a front of it
abbrev pub Prints : Result (Unit {0}) MigrateFault →
    Option (List ℕ) → List ℕ → Option (List ℕ) → Type 0
Prints (Err Write) before text after = AppendsFront before text after
Prints (Err Memory) before text after = AppendsFront before text after
Prints _ before text after = Appends before text after

-- after a header of that version these records were read, the text of the second version of both was
-- written, and so it ended
pub record CopiesBehind (version : Version) (header : PlainHeader) (rest : List ℕ)
    (before after : Option (List ℕ)) (ended : Result (Unit {0}) MigrateFault) : Type 0 where
  pub records : List Record
  pub stage : Stage
  pub left : List ℕ
  pub begins : BeginsWith (first_stage version header.options.injectors) rest records stage left
  pub ends : EndsAt stage left ended
  pub prints : Prints ended before (log_text Second header records) after

-- where a read failed, so much of the bytes was taken before the rest, and was migrated as a log that
-- ends there
pub record TakenBehind (version : Version) (header : PlainHeader) (bytes rest : List ℕ)
    (before after : Option (List ℕ)) : Type 0 where
  pub taken : List ℕ
  pub is_front : bytes ≡ taken ++ rest
  pub ended : Result (Unit {0}) MigrateFault
  pub at_end : IsAtItsEnd ended
  pub behind : CopiesBehind version header taken before after ended

-- the bytes have a header, and after it it came so far
pub record Migrates (bytes : List ℕ) (before after : Option (List ℕ))
    (ended : Result (Unit {0}) MigrateFault) : Type 0 where
  pub version : Version
  pub header : PlainHeader
  pub rest : List ℕ
  pub header_is : header_at bytes ≡ Ok ((version, header), rest)
  pub behind : CopiesBehind version header rest before after ended

-- why it ends before a header is read
abbrev pub HasNoHeader : List ℕ → Result (Unit {0}) MigrateFault → Type 0
HasNoHeader bytes (Ok x) = ⊥
HasNoHeader bytes (Err (Log f)) = MeansRead f (header_at bytes)
HasNoHeader bytes (Err Write) = ⊥
HasNoHeader bytes (Err Memory) = Unit {0}

-- A migration of these bytes ends so: no header was read and nothing was written, or so far as it came
-- the text was written.
abbrev pub IsMigration : List ℕ → Option (List ℕ) → Option (List ℕ) →
    Result (Unit {0}) MigrateFault → Type 0
IsMigration bytes before after ended =
    (HasNoHeader bytes ended × (after ≡ before)) ⊎ Migrates bytes before after ended

-- Where a read failed, so much of the bytes was taken before the rest, and what was written is what a
-- migration of a log writes that ends there: it is cut, or it is whole.
pub record MigratesTaken (bytes rest : List ℕ) (before after : Option (List ℕ)) : Type 0 where
  pub taken : List ℕ
  pub is_front : bytes ≡ taken ++ rest
  pub ended : Result (Unit {0}) MigrateFault
  pub at_end : IsAtItsEnd ended
  pub migrates : IsMigration taken before after ended
