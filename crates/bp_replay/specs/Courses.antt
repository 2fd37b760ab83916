-- How far a log was followed.
use Rattle.std.specs.Prelude.{◌≡◌, ℕ, List, Option, Some}
use Rattle.js_value.specs.Value.{PlainSet}
use Rattle.js_program.specs.PlainProgram.{PlainProgram}
use Rattle.js_meaning.specs.Bodies.{Origin}
use Rattle.bp_log.specs.Options.{PlainOptions}
use Rattle.bp_log.specs.Texts.{lines_text}
use Rattle.bp_log.specs.declared.version.Version.{Version}
use Rattle.bp_log.specs.declared.record.Record.{Record}
use Rattle.bp_reading.specs.Reading.{Stage, BeginsWith, first_stage}
use Rattle.bp_run.specs.Bodies.{Code}
use Rattle.bp_run.specs.Configuration.{Configuration}
use Rattle.bp_run.specs.Story.{Next, next, after_record, story}
use Rattle.bp_code.specs.Code.{sealed_code_of as code_of}

-- a program under options, records of it in a log of this version, and where they lead
pub record Course : Type 0 where
  pub version : Version
  pub program : PlainProgram
  pub options : PlainOptions
  pub records : List Record
  pub told : Configuration Origin

abbrev pub code_in : Course → Code Origin PlainSet
code_in c = code_of c.program c.options

-- the records are a story of the program, which leads there
abbrev pub IsTold : Course → Type 0
IsTold c = story (code_in c) c.options c.records ≡ Some c.told

-- what is printed for the records
abbrev pub text_in : Course → List ℕ
text_in c = lines_text c.told.stand.lines

-- what the run does next, and what one more record would lead to
abbrev pub coming : Course → Next
coming c = next (code_in c) c.options c.told

abbrev pub led : Course → Record → Option (Configuration Origin)
led c r = after_record (code_in c) c.options c.told r

-- the bytes after a header begin with the records of this course, which are a story
pub record Follows (rest : List ℕ) (c : Course) (s : Stage) (left : List ℕ) : Type 0 where
  pub begins : BeginsWith (first_stage c.version c.options.injectors) rest c.records s left
  pub told : IsTold c
