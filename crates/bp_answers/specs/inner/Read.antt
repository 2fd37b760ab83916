-- The records of a log, read.
use Rattle.std.specs.Prelude.{◌≡◌, ℕ, List, Option, Some, None, Result, Ok, Err, Vec}
use Rattle.std.specs.declared.alloc.Global.{Global}
use Rattle.bp_log.specs.declared.record.Record.{Record}
use Rattle.bp_reading.specs.Reading.{Stage, next_at, BeginsWith}
use Rattle.bp_replay.specs.declared.fault.ReplayFault.TheVariants.{Log, Differs, Program, Write, Memory}
use Rattle.bp_answers.specs.declared.answer.NoAnswer.{NoAnswer}
use Rattle.bp_answers.specs.declared.answer.NoAnswer.TheVariants.{Refused, Absent}
use Rattle.bp_answers.specs.Reading.{AreAsked, AreFewer, IsSpoiled, ReadsSome}

abbrev pub ReadsFault : Stage → List ℕ → Option ℕ → NoAnswer → Type 0
ReadsFault s bytes number (Refused (Log f)) = ReadsSome s bytes (IsSpoiled number f)
ReadsFault s bytes number (Refused (Differs n expected other)) = ⊥
ReadsFault s bytes number (Refused Program) = ⊥
ReadsFault s bytes number (Refused Write) = ⊥
ReadsFault s bytes number (Refused Memory) = Unit {0}
ReadsFault s bytes number Absent = ReadsSome s bytes (AreFewer number)

-- the records, where the bytes are so; out of memory says nothing
abbrev pub ReadsAs : Stage → List ℕ → Option ℕ → Result (Vec Record Global) NoAnswer → Type 0
ReadsAs s bytes number (Ok v) =
    (t : Stage) × (left : List ℕ) × BeginsWith s bytes v.items t left
    × AreAsked number v.items (next_at t left)
ReadsAs s bytes number (Err f) = ReadsFault s bytes number f

-- where the log ends after these records: all were asked for, or more
abbrev pub EndsAs : Option ℕ → List Record → Result (Vec Record Global) NoAnswer → Type 0
EndsAs number rs (Ok v) = (number ≡ None) × (v.items ≡ rs)
EndsAs number rs (Err Absent) = (n : ℕ) × (number ≡ Some n)
EndsAs number rs (Err (Refused f)) = ⊥
