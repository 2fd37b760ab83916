-- Where an arbiter is that made records again.
use Rattle.std.specs.Prelude.{◌≡◌, ◌⊎◌, ℕ, List, [], ◌∷◌, ◌++◌, length, Some}
use Rattle.js_program.specs.PlainProgram.{PlainProgram}
use Rattle.js_meaning.specs.Bodies.{Origin}
use Rattle.bp_log.specs.Options.{PlainOptions}
use Rattle.bp_log.specs.declared.record.Record.{Record}
use Rattle.bp_log.specs.declared.record.Record.TheVariants.{End}
use Rattle.bp_log.specs.declared.verdict.Verdict.{Verdict}
use Rattle.bp_run.specs.Configuration.{Configuration}
use Rattle.bp_run.specs.Story.{story}
use Rattle.bp_code.specs.Code.{code_of}
use Rattle.bp_arbiter.specs.Arbiters.{PlainArbiter}
use Rattle.bp_replay.specs.declared.fault.ReplayFault.{ReplayFault}
use Rattle.bp_replay.specs.declared.fault.ReplayFault.TheVariants.{Log, Differs, Program, Write, Memory}
use Rattle.bp_replay.specs.Courses.{Course}
use Rattle.bp_replay.specs.Following.{IsThere}
use Rattle.bp_explain.specs.Explained.{before_end, if_at_rest, verdict_line, words_of}
use Rattle.bp_answers.specs.Walking.{Parts}

-- the arbiter is where these records of the program lead
pub record LeadsTo (program : PlainProgram) (options : PlainOptions) (records : List Record)
    (a : PlainArbiter) : Type 0 where
  pub course : Course
  pub program_is : course.program ≡ program
  pub options_are : course.options ≡ options
  pub records_are : course.records ≡ records
  pub there : IsThere course a
  pub kept : a.floor.base.program ≡ program

-- out of memory says nothing
abbrev pub PartsAs : PlainProgram → PlainOptions → List Record → ReplayFault → Type 0
PartsAs program options records (Log f) = ⊥
PartsAs program options records (Differs number expected other) =
    Parts program options records number expected other
PartsAs program options records Program = ⊥
PartsAs program options records Write = ⊥
PartsAs program options records Memory = Unit {0}

-- no record but the last is an end
abbrev pub EndsLast : List Record → Type 0
EndsLast records =
    (records ≡ before_end records) ⊎ ((v : Verdict) × (records ≡ before_end records ++ End v ∷ []))

-- the records are a story, and the verdict to which it leads, if it does, was written
pub record IsEnded (program : PlainProgram) (options : PlainOptions) (records : List Record)
    (before after : List ℕ) : Type 0 where
  pub told : Configuration Origin
  pub story_is : story (code_of program options) options records ≡ Some told
  pub written : after ≡ before ++ verdict_line told.stand.verdict

-- what is said where a course rests, or of the turn in which it ended
abbrev pub rest_in : Course → List ℕ
rest_in c =
    if_at_rest (code_of c.program c.options) (words_of c.program c.options) (length c.records) c.told
