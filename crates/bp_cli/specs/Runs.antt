-- A run that was asked for: what its injectors brought, its text, its log, and what replays of that
-- log tell.
use Rattle.std.specs.Prelude.{◌≡◌, ◌⊎◌, ℕ, true, false, List, [], ◌++◌, Option, Some, None, IfSome, IsSomeAnd}
use mathlib.Core.List.{IsPrefix}
use Rattle.bp_base.specs.Counts.{Rose}
use Rattle.bp_base.specs.Worlds.{Holdings, Sets}
use Rattle.bp_base.specs.Pieces.{Appends, AppendsFront}
use Rattle.js_program.specs.PlainProgram.{PlainProgram}
use Rattle.bp_log.specs.Header.{PlainHeader}
use Rattle.bp_log.specs.Logs.{can_say, log_text}
use Rattle.bp_log.specs.declared.version.Version.{Version}
use Rattle.bp_log.specs.declared.version.Version.TheVariants.{Second}
use Rattle.bp_log.specs.Records.{Complete, verdict_of, is_complete}
use Rattle.bp_log.specs.declared.record.Record.{Record}
use Rattle.bp_log.specs.declared.verdict.Verdict.{Verdict}
use Rattle.bp_code.specs.Code.{code_of, text_of, records_alone}
use Rattle.bp_script.specs.Programs.{IsProgram}
use Rattle.bp_log.specs.Verdicts.{IsQuiet}
use Rattle.bp_args.specs.declared.command.Run.{Run}
use Rattle.bp_session.specs.Merges.{Merge}
use Rattle.bp_session.specs.Reports.{HasNoVerdict}
use Rattle.bp_replay.specs.Laws.{Retells}
use Rattle.bp_cli.specs.declared.conclusion.Conclusion.{Conclusion}
use Rattle.bp_cli.specs.declared.conclusion.Conclusion.TheVariants.{Ran, NotRead, NotWritten, NoMemory}
use Rattle.bp_cli.specs.Outside.{Outside, IsAsBefore}
use Rattle.bp_cli.specs.Injected.{AreUnder, MergeWhole, BreaksIn}

-- ---- the log

-- the text is now under the name, and under each other name what was there, where the world tells
-- what it holds
abbrev pub Holds : Option Holdings → List ℕ → List ℕ → Option Holdings → Type 0
Holds before name text after =
    IfSome before (λ held. IsSomeAnd after (λ holds. Sets held name text holds))

-- the same of a front of the text
abbrev pub HoldsFront : Option Holdings → List ℕ → List ℕ → Option Holdings → Type 0
HoldsFront before name text after =
    (front : List ℕ) × (rest : List ℕ) × (text ≡ front ++ rest) × Holds before name front after

-- the world holds the log, where one is kept, and else what it held
abbrev pub KeepsLog : Option (List ℕ) → Option Holdings → List ℕ → Option Holdings → Type 0
KeepsLog None before text after = after ≡ before
KeepsLog (Some name) before text after = Holds before name text after

-- the first of these records stand in what is held under the name, after the header, and what was
-- printed is of their text
pub record HoldsBehind (name : List ℕ) (header : PlainHeader) (program : PlainProgram)
    (records : List Record) (before after : Outside) : Type 0 where
  pub first : List Record
  pub later : List Record
  pub is_front : first ++ later ≡ records
  pub more : List ℕ
  pub kept : Holds before.holds name (log_text Second header first ++ more) after.holds
  pub printed : IsSomeAnd (text_of program header.options first)
      (λ text. AppendsFront before.printed text after.printed)

-- writing in the world failed, it holds what it held, and nothing was printed; or it holds a front of
-- the log, in which the records of all that was printed stand
abbrev pub KeepsLogFront : Option (List ℕ) → PlainHeader → PlainProgram → List Record →
    Outside → Outside → Type 0
KeepsLogFront None header program records before after = after.holds ≡ before.holds
KeepsLogFront (Some name) header program records before after =
    (Rose before.write_faults after.write_faults × IsAsBefore before after)
    ⊎ (HoldsFront before.holds name (log_text Second header records) after.holds
    × ((after.printed ≡ before.printed) ⊎ HoldsBehind name header program records before after))

-- ---- the run

abbrev pub header_of : Run → List ℕ → PlainHeader
header_of asked bytes = record { options = asked.options; program = bytes }

module _ (asked : Run) (bytes : List ℕ) (program : PlainProgram) (records : List Record)
    (before after : Outside) where
  -- the text of the records was printed, and where a log is kept, theirs is held
  pub record TellsWhole : Type 0 where
    pub prints : IsSomeAnd (text_of program asked.options records)
        (λ text. Appends before.printed text after.printed)
    pub keeps : KeepsLog asked.log before.holds
        (log_text Second (header_of asked bytes) records) after.holds

  -- A front of the text of the records was printed, and a front of their log is held in which the
  -- records of that text stand; or writing in the world failed, nothing was printed, and it holds what
  -- it held.
  pub record TellsPartly : Type 0 where
    pub prints : IsSomeAnd (text_of program asked.options records)
        (λ text. AppendsFront before.printed text after.printed)
    pub keeps : KeepsLogFront asked.log (header_of asked bytes) program records before after

  -- The run came to this verdict, and all of it was told. Without injectors it is the one run.
  -- Where it waits for its injectors and nothing more could come, all that each of them brought was
  -- recorded. Each replay of a log of these records, of either version, that meets no trouble prints
  -- the same text and comes to the same verdict.
  pub record RunsTo (inputs : List (List ℕ)) (v : Verdict) : Type 0 where
    pub verdict : verdict_of records ≡ Some v
    pub told : TellsWhole
    pub one_run : asked.injectors ≡ [] → records ≡ records_alone program asked.options
    pub whole : asked.options.wait ≡ true → IsQuiet v → MergeWhole records inputs
    pub replays : IsSomeAnd (text_of program asked.options records)
        (λ text. (version : Version) → can_say version asked.options.wait ≡ true
        → Retells (log_text version (header_of asked bytes) records) text v)

  -- how a run ends: with a verdict; before it came to one, where reading an injector failed, and all
  -- that was recorded until then was told; or where writing failed or memory ran out
  abbrev pub RunEnds : List (List ℕ) → Conclusion → Type 0
  RunEnds inputs (Ran v) = RunsTo inputs v
  RunEnds inputs NotRead =
      (is_complete records ≡ false) × TellsWhole × BreaksIn before.holds records inputs
      × HasNoVerdict (code_of program asked.options) asked.options records
  RunEnds inputs NotWritten = TellsPartly
  RunEnds inputs NoMemory = TellsPartly
  RunEnds inputs _ = ⊥

-- More records make these a complete story, which still merges the inputs, and what was printed is a
-- front of its text.
pub record IsBeginning (asked : Run) (program : PlainProgram) (records : List Record)
    (inputs : List (List ℕ)) (before after : Outside) : Type 0 where
  pub later : List Record
  pub complete : Complete (records ++ later)
  pub merge : Merge (records ++ later) inputs
  pub prints : IsSomeAnd (text_of program asked.options (records ++ later))
      (λ text. AppendsFront before.printed text after.printed)

-- The bytes are a program, of which the records are a story. What they say of the injectors is a
-- merge of what the world holds under their names, and without injectors they are the first of the
-- one run. They, and what was printed, are the beginning of a complete story.
pub record IsRunOf (asked : Run) (bytes : List ℕ) (records : List Record) (before after : Outside)
    (conclusion : Conclusion) : Type 0 where
  pub program : PlainProgram
  pub is_program : IsProgram bytes program
  pub inputs : List (List ℕ)
  pub under : AreUnder before.holds asked.injectors inputs
  pub merge : Merge records inputs
  pub alone : asked.injectors ≡ [] → IsPrefix records (records_alone program asked.options)
  pub begins : IsBeginning asked program records inputs before after
  pub ends : RunEnds asked bytes program records before after inputs conclusion
