-- What is true of the records of runs.
use Rattle.std.specs.Prelude.{List, IsSome}
use Rattle.js_program.specs.PlainProgram.{PlainProgram}
use Rattle.bp_log.specs.Options.{PlainOptions, AreOptions}
use Rattle.bp_log.specs.Records.{Complete}
use Rattle.bp_log.specs.declared.version.Version.{Version}
use Rattle.bp_log.specs.declared.record.Record.{Record}
use Rattle.bp_reading.specs.Reading.{first_stage}
use Rattle.bp_reading.specs.Laws.{AreRecords, Stands}
use Rattle.bp_run.specs.Story.{story}
use Rattle.bp_code.specs.Code.{code_of}

-- The records of every complete story of a program can stand in a log of each version, one after
-- another, each on a line that isn't too long, and the last is `end`: whatever the injectors, whose
-- events, bad lines and ends are among them.
abbrev pub StoriesStand : Type 0
StoriesStand =
    (version : Version) (program : PlainProgram) (options : PlainOptions) (records : List Record) →
    AreOptions options → AreRecords records → Complete records →
    IsSome (story (code_of program options) options records) →
    Stands (first_stage version options.injectors) records
