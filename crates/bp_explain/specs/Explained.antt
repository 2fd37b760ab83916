-- The state of a program's run after its records, in words.
use Rattle.std.specs.Prelude.{ℕ, zero, suc, ◌-◌, List, [], ◌∷◌, ◌++◌, length, slice_get, Option, Some, None, option_and_then, option_map, decimal, codes, if◌then◌else◌}
use Rattle.js_value.specs.Value.{PlainSet}
use Rattle.js_program.specs.PlainProgram.{PlainProgram}
use Rattle.js_meaning.specs.Bodies.{Origin, evaluation}
use Rattle.bp_log.specs.Logs.{record_text}
use Rattle.bp_log.specs.Options.{PlainOptions}
use Rattle.bp_log.specs.Texts.{whole_line}
use Rattle.bp_log.specs.declared.record.Record.{Record}
use Rattle.bp_log.specs.declared.record.Record.TheVariants.{End}
use Rattle.bp_log.specs.declared.trace.Line.TheVariants.{Verdict as Ended_by}
use Rattle.bp_log.specs.declared.verdict.Verdict.{Verdict}
use Rattle.bp_run.specs.Bodies.{Code}
use Rattle.bp_run.specs.Configuration.{Configuration}
use Rattle.bp_run.specs.Story.{is_over, story}
use Rattle.bp_code.specs.Code.{code_of, ground_for}
use Rattle.bp_thread.specs.Jobs.{stop_line}
use Rattle.bp_explain.specs.Words.{Words}
use Rattle.bp_explain.specs.Sets.{spelling_of}
use Rattle.bp_explain.specs.States.{rest_text}

abbrev pub heading_of : ℕ → Option Record → List ℕ
heading_of n None = codes "before the first record\n"
heading_of n (Some r) =
    codes "after record " ++ (decimal n ++ (codes ": " ++ (record_text r ++ codes "\n")))

-- the last of the records, by its number
abbrev pub heading : List Record → List ℕ
heading records = heading_of (length records) (slice_get records (length records - 1))

-- the records without an end
abbrev pub before_end : List Record → List Record
before_end [] = []
before_end (End v ∷ rs) = []
before_end (r ∷ rs) = r ∷ before_end rs

abbrev pub verdict_line : Option Verdict → List ℕ
verdict_line None = []
verdict_line (Some v) = whole_line (Ended_by v)

-- Where a b-thread's own doing is the verdict, the others are in the middle of their turn, and
-- nothing is said of them but after which record they stood last.
abbrev pub within_turn : ℕ → List ℕ
within_turn zero = codes "the run ended before its b-threads stood\n"
within_turn (suc n) =
    codes "the run ended within a turn: its b-threads stood last after record "
    ++ (decimal n ++ codes "\n")

-- after this many records
abbrev pub if_at_rest : {Origin Set : Type 0} → Code Origin Set → Words Origin Set → ℕ →
    Configuration Origin → List ℕ
if_at_rest code w n c = if is_over c then within_turn n else rest_text code w c

-- where the records are a story: the state in which its end, if it has one, finds it, and the
-- verdict
unfoldable pub state_after : {Origin Set : Type 0} → Code Origin Set → Words Origin Set →
    PlainOptions → List Record → Option (List ℕ)
state_after code w o records =
    option_and_then
    (λ found. option_map
    (λ c. heading records
    ++ (if_at_rest code w (length (before_end records)) found ++ verdict_line c.stand.verdict))
    (story code o records))
    (story code o (before_end records))

abbrev pub words_of : PlainProgram → PlainOptions → Words Origin PlainSet
words_of program options = record {
  line = λ o replies.
      stop_line (evaluation (ground_for program options.budget o) options.budget o replies);
  spelling = spelling_of program;
}

abbrev pub state_of : PlainProgram → PlainOptions → List Record → Option (List ℕ)
state_of program options records =
    state_after (code_of program options) (words_of program options) options records
