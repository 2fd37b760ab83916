-- A program and options as the code that a run sees.
use Rattle.std.specs.Prelude.{ℕ, List, Option}
use Rattle.js_value.specs.Value.{PlainSet}
use Rattle.js_program.specs.PlainProgram.{PlainProgram}
use Rattle.js_meaning.specs.State.{Ground}
use Rattle.js_meaning.specs.Bodies.{Origin, the_top, function, bare, ground_of}
use Rattle.bp_log.specs.Options.{PlainOptions}
use Rattle.bp_log.specs.declared.record.Record.{Record}
use Rattle.bp_draw.specs.Words.{draw_word}
use Rattle.bp_run.specs.Bodies.{Code}
use Rattle.bp_run.specs.Story.{alone}
use Rattle.bp_run.specs.Text.{text}
use Rattle.bp_meaning.specs.Membership.{member}
use Rattle.bp_meaning.specs.After.{after, handling}

-- what a body stands on: the top level on the program alone, all else on what the top level leaves
abbrev pub ground_for : PlainProgram → ℕ → Origin → Ground
ground_for program budget the_top = bare program
ground_for program budget (function mode f args) = ground_of program budget

-- each body, handler and predicate has the whole budget of the options, and the words are those of their seed
abbrev pub code_of : PlainProgram → PlainOptions → Code Origin PlainSet
code_of program options = record {
  top = the_top;
  after = λ o replies. after (ground_for program options.budget o) options.budget o replies;
  handling = λ o replies e. handling (ground_for program options.budget o) options.budget o replies e;
  has = member (ground_of program options.budget) options.budget;
  word = draw_word options.seed;
}

-- the records of the run without injectors
abbrev pub records_alone : PlainProgram → PlainOptions → List Record
records_alone program options = alone (code_of program options) options

-- what is printed for these records, where they are a story of the program
abbrev pub text_of : PlainProgram → PlainOptions → List Record → Option (List ℕ)
text_of program options records = text (code_of program options) options records

-- what is printed without injectors
abbrev pub text_alone : PlainProgram → PlainOptions → Option (List ℕ)
text_alone program options = text_of program options (records_alone program options)

-- the same code, which no proof opens
unfoldable pub sealed_code_of : PlainProgram → PlainOptions → Code Origin PlainSet
sealed_code_of program options = code_of program options
