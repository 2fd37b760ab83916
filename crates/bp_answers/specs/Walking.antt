-- The first record that a run does not make.
use Rattle.std.specs.Prelude.{◌≡◌, ℕ, ◌+◌, List, ◌∷◌, ◌++◌, length, Option, Some, None}
use Rattle.js_program.specs.PlainProgram.{PlainProgram}
use Rattle.js_meaning.specs.Bodies.{Origin}
use Rattle.bp_log.specs.Options.{PlainOptions}
use Rattle.bp_log.specs.declared.record.Record.{Record}
use Rattle.bp_run.specs.Configuration.{Configuration}
use Rattle.bp_run.specs.Story.{next, after_record, record_of, story}
use Rattle.bp_code.specs.Code.{code_of}

-- the record of this number is the first that the run does not make: it makes another, or waits
pub record Parts (program : PlainProgram) (options : PlainOptions) (records : List Record)
    (number : ℕ) (expected : Option Record) (other : Record) : Type 0 where
  pub before : List Record
  pub behind : List Record
  pub records_are : records ≡ before ++ other ∷ behind
  pub told : Configuration Origin
  pub story_is : story (code_of program options) options before ≡ Some told
  pub number_is : number ≡ length before + 1
  pub differs : after_record (code_of program options) options told other ≡ None
  pub expected_is : expected ≡ record_of (next (code_of program options) options told)
