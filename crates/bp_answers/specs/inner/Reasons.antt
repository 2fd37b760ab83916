-- Why an event of records was selected, and who asks for one where they lead.
use Rattle.std.specs.Prelude.{◌≡◌, ℕ, List, [], ◌++◌, length, take, slice_get, Option, Some, None}
use Rattle.js_data.specs.Event.{PlainEvent}
use Rattle.js_program.specs.PlainProgram.{PlainProgram}
use Rattle.js_meaning.specs.Bodies.{Origin}
use Rattle.bp_log.specs.Options.{PlainOptions}
use Rattle.bp_log.specs.declared.record.Record.{Record}
use Rattle.bp_log.specs.declared.record.Record.TheVariants.{Sel}
use Rattle.bp_run.specs.Configuration.{Configuration}
use Rattle.bp_run.specs.Choosing.{Choice, Touched}
use Rattle.bp_run.specs.Story.Next.{Selects}
use Rattle.bp_arbiter.specs.Arbiters.{PlainArbiter, Recounts, code_in, coming, options_in}
use Rattle.bp_replay.specs.Courses.{Course}
use Rattle.bp_replay.specs.Courses as course
use Rattle.bp_explain.specs.Whys.{asked_at_rest, asked_text, before_selection, why_text}
use Rattle.bp_replay.specs.declared.fault.ReplayFault.{ReplayFault}
use Rattle.bp_replay.specs.declared.fault.ReplayFault.TheVariants.{Log, Differs, Program, Write, Memory}
use Rattle.bp_answers.specs.declared.answer.NoAnswer.{NoAnswer}
use Rattle.bp_answers.specs.declared.answer.NoAnswer.TheVariants.{Refused, Absent}
use Rattle.bp_answers.specs.inner.Led.{PartsAs}

-- what was written is why what comes next is selected, if that is an event
abbrev pub SaysWhy : PlainArbiter → List ℕ → List ℕ → Type 0
SaysWhy a before after =
    (c : Configuration Origin) (ch : Choice) (reached : List Touched) → Recounts a c →
    coming a c ≡ Selects ch reached →
    after ≡ before ++ why_text (code_in a) (options_in a) c ch reached

-- what was written is who asks for e, and there is no verdict
abbrev pub SaysAsked : PlainArbiter → PlainEvent → List ℕ → List ℕ → Type 0
SaysAsked a e before after =
    (c : Configuration Origin) → Recounts a c →
    (c.stand.verdict ≡ None) × (after ≡ before ++ asked_text (code_in a) c.stand e)

-- the same, of the course that an arbiter follows
abbrev pub WritesWhy : Course → List ℕ → List ℕ → Type 0
WritesWhy c before after =
    (ch : Choice) (reached : List Touched) → course.coming c ≡ Selects ch reached →
    after ≡ before ++ why_text (course.code_in c) c.options c.told ch reached

abbrev pub WritesAsked : Course → PlainEvent → List ℕ → List ℕ → Type 0
WritesAsked c e before after =
    after ≡ before ++ asked_at_rest (course.code_in c) e (length c.records) c.told

-- where the selection of this number, counted from 0, stands among records
abbrev pub IsPlaceOf : ℕ → List Record → Option ℕ → Type 0
IsPlaceOf n records None = before_selection n [] records ≡ None
IsPlaceOf n records (Some i) =
    (e : PlainEvent) × (slice_get records i ≡ Some (Sel e))
    × (before_selection n [] records ≡ Some (take i records, e))

-- this holds of the number of the record that the run does not make
abbrev pub DiffersWhere : (ℕ → Type 0) → ReplayFault → Type 0
DiffersWhere holds (Log f) = Unit {0}
DiffersWhere holds (Differs number expected other) = holds number
DiffersWhere holds Program = Unit {0}
DiffersWhere holds Write = Unit {0}
DiffersWhere holds Memory = Unit {0}

-- nothing is said: the run does not make a record that is asked about, or what is asked about is
-- missing
abbrev pub HasNothing : PlainProgram → PlainOptions → List Record → (ℕ → Type 0) → Type 0 →
    NoAnswer → Type 0
HasNothing program options records asked missing (Refused f) =
    PartsAs program options records f × DiffersWhere asked f
HasNothing program options records asked missing Absent = missing
