-- What a replay does with what stands after the header.
use Rattle.std.specs.Prelude.{◌≡◌, ◌⊎◌, ℕ, List, ◌++◌, Option, Result, Ok, Err}
use Rattle.bp_log.specs.Header.{PlainHeader}
use Rattle.bp_log.specs.declared.version.Version.{Version}
use Rattle.bp_log.specs.declared.verdict.Verdict.{Verdict}
use Rattle.bp_reading.specs.Reading.{Stage}
use Rattle.bp_script.specs.declared.refusal.Refusal.{Refusal}
use Rattle.bp_script.specs.Programs.{IsProgram, IsRefused}
use Rattle.bp_replay.specs.declared.fault.ReplayFault.{ReplayFault}
use Rattle.bp_replay.specs.declared.fault.ReplayFault.TheVariants.{Log, Differs, Program, Write, Memory}
use Rattle.bp_replay.specs.Courses.{Course, Follows, text_in}
use Rattle.bp_replay.specs.Endings.{EndsAt, IsAtItsEnd}
use Rattle.bp_replay.specs.Replays.{Prints}

-- with the program refused, or with memory running out before a record was read
abbrev pub HasNoProgram : PlainHeader → Result Verdict ReplayFault → Type 0
HasNoProgram header (Ok v) = ⊥
HasNoProgram header (Err (Log f)) = ⊥
HasNoProgram header (Err (Differs number expected other)) = ⊥
HasNoProgram header (Err Program) = (refusal : Refusal) × IsRefused header.program refusal
HasNoProgram header (Err Write) = ⊥
HasNoProgram header (Err Memory) = Unit {0}

-- what was told is written
pub record ReplaysBehind (version : Version) (header : PlainHeader) (rest : List ℕ)
    (before after : Option (List ℕ)) (ended : Result Verdict ReplayFault) : Type 0 where
  pub course : Course
  pub program : IsProgram header.program course.program
  pub options : course.options ≡ header.options
  pub version_is : course.version ≡ version
  pub stage : Stage
  pub left : List ℕ
  pub follows : Follows rest course stage left
  pub ends : EndsAt course stage left ended
  pub prints : Prints ended before (text_in course) after

abbrev pub EndsBehind : Version → PlainHeader → List ℕ →
    Option (List ℕ) → Option (List ℕ) → Result Verdict ReplayFault → Type 0
EndsBehind version header rest before after ended =
    (HasNoProgram header ended × (after ≡ before))
    ⊎ ReplaysBehind version header rest before after ended

-- where a read failed, so much of the bytes was taken before the rest, and was replayed as a log that ends
-- there
pub record TakenBehind (version : Version) (header : PlainHeader) (bytes rest : List ℕ)
    (before after : Option (List ℕ)) : Type 0 where
  pub taken : List ℕ
  pub is_front : bytes ≡ taken ++ rest
  pub ended : Result Verdict ReplayFault
  pub at_end : IsAtItsEnd ended
  pub ends : EndsBehind version header taken before after ended
