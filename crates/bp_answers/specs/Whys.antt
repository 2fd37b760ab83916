-- What is answered about the bytes of a log, where it is asked why.
use Rattle.std.specs.Prelude.{◌≡◌, ◌⊎◌, ◌≤◌, ◌+◌, ℕ, zero, suc, List, [], length, String, string_bytes, Option, Some, None, Result, Ok, Err}
use Rattle.std.specs.declared.alloc.Global.{Global}
use Rattle.js_data.specs.Event.{PlainEvent}
use Rattle.js_program.specs.PlainProgram.{PlainProgram}
use Rattle.bp_log.specs.Header.{PlainHeader}
use Rattle.bp_log.specs.Options.{PlainOptions}
use Rattle.bp_log.specs.declared.record.Record.{Record}
use Rattle.bp_log.specs.declared.version.Version.{Version}
use Rattle.bp_reading.specs.Heads.{header_at}
use Rattle.bp_explain.specs.Whys.{why_not_of, why_of, before_selection}
use Rattle.bp_replay.specs.declared.fault.ReplayFault.{ReplayFault}
use Rattle.bp_replay.specs.declared.fault.ReplayFault.TheVariants.{Differs}
use Rattle.bp_answers.specs.declared.answer.NoAnswer.{NoAnswer}
use Rattle.bp_answers.specs.declared.answer.NoAnswer.TheVariants.{Refused, Absent}
use Rattle.bp_explain.specs.declared.subject.Subject.{Subject}
use Rattle.bp_explain.specs.declared.subject.Subject.TheVariants as subject
use Rattle.bp_answers.specs.Asking.{Asked, HasNoHeader, RefusesBehind}
use Rattle.bp_answers.specs.Walking.{Parts}

-- no selection has this number, counted from 1
abbrev pub HasNoSelection : ℕ → List Record → Type 0
HasNoSelection zero records = Unit {0}
HasNoSelection (suc n) records = before_selection n [] records ≡ None

-- a selection has the first number, counted from 1, and the record of the second stands before it or
-- is its own
abbrev pub IsUpTo : ℕ → List Record → ℕ → Type 0
IsUpTo zero records number = ⊥
IsUpTo (suc n) records number =
    (b : List Record × PlainEvent) × (before_selection n [] records ≡ Some b)
    × (number ≤ length b.0 + 1)

-- what is said of a program after these records
abbrev pub said_of : PlainProgram → PlainOptions → Subject → List Record → Option (List ℕ)
said_of program options (subject.Selection n) records = why_of program options n records
said_of program options (subject.Event e) records = why_not_of program options e records

-- the records have no such selection
abbrev pub IsMissing : Subject → List Record → Type 0
IsMissing (subject.Selection n) records = HasNoSelection n records
IsMissing (subject.Event e) records = ⊥

-- the record of this number is asked about
abbrev pub IsAsked : Subject → List Record → ℕ → Type 0
IsAsked (subject.Selection n) records number = IsUpTo n records number
IsAsked (subject.Event e) records number = Unit {0}

-- A log is refused after its header: for a line that is no record wherever it stands, but never
-- because the run does not make a record that is not asked about.
abbrev pub RefusesWhy : Version → PlainHeader → List ℕ → Subject → ReplayFault → Type 0
RefusesWhy version header rest s (Differs number expected other) =
    (a : Asked version header rest None)
    × Parts a.program header.options a.records number expected other
    × IsAsked s a.records number
RefusesWhy version header rest s f = RefusesBehind version header rest None f

-- what is answered about a log after its header
abbrev pub WhyBehind : Version → PlainHeader → List ℕ → Subject →
    Result (String Global) NoAnswer → Type 0
WhyBehind version header rest s (Ok text) =
    (a : Asked version header rest None)
    × (said_of a.program header.options s a.records ≡ Some (string_bytes text))
WhyBehind version header rest s (Err (Refused f)) = RefusesWhy version header rest s f
WhyBehind version header rest s (Err Absent) =
    (a : Asked version header rest None) × IsMissing s a.records

-- the bytes are a header and the rest, about which this is answered
abbrev pub WhyHeaded : List ℕ → Subject → Result (String Global) NoAnswer → Type 0
WhyHeaded bytes s result =
    (version : Version) × (header : PlainHeader) × (rest : List ℕ)
    × (header_at bytes ≡ Ok ((version, header), rest))
    × WhyBehind version header rest s result

-- why an event of the story of the log's records was selected, or another is not where it ends; or
-- why nothing is said of it
abbrev pub IsWhy : List ℕ → Subject → Result (String Global) NoAnswer → Type 0
IsWhy bytes s result = HasNoHeader bytes result ⊎ WhyHeaded bytes s result
