-- What a replay of the bytes of a log prints, and how it ends.
use Rattle.std.specs.Prelude.{◌≡◌, ◌⊎◌, ℕ, List, ◌++◌, Option, Result, Ok, Err}
use Rattle.bp_base.specs.Pieces.{Appends, AppendsFront}
use Rattle.bp_log.specs.Header.{PlainHeader}
use Rattle.bp_log.specs.declared.version.Version.{Version}
use Rattle.bp_log.specs.declared.verdict.Verdict.{Verdict}
use Rattle.bp_reading.specs.Heads.{header_at}
use Rattle.bp_reading.specs.Reading.{Stage}
use Rattle.bp_reader.specs.Gets.{MeansRead}
use Rattle.bp_script.specs.declared.refusal.Refusal.{Refusal}
use Rattle.bp_script.specs.Programs.{IsProgram, IsRefused}
use Rattle.bp_replay.specs.declared.fault.ReplayFault.{ReplayFault}
use Rattle.bp_replay.specs.declared.fault.ReplayFault.TheVariants.{Log, Differs, Program, Write, Memory}
use Rattle.bp_replay.specs.Courses.{Course, Follows, text_in}
use Rattle.bp_replay.specs.Endings.{EndsAt, IsAtItsEnd}

-- the bytes are a header of the course's version, whose program and options are those of the course, and
-- the rest
pub record Heads (bytes : List ℕ) (c : Course) (rest : List ℕ) : Type 0 where
  pub header : PlainHeader
  pub header_is : header_at bytes ≡ Ok ((c.version, header), rest)
  pub program : IsProgram header.program c.program
  pub options : c.options ≡ header.options

-- the text was written; where memory ran out or writing failed, a front of it
abbrev pub Prints : Result Verdict ReplayFault → Option (List ℕ) → List ℕ → Option (List ℕ) → Type 0
Prints (Err Write) before text after = AppendsFront before text after
Prints (Err Memory) before text after = AppendsFront before text after
Prints _ before text after = Appends before text after

-- a replay of these bytes came so far, printed the text of that, and ended so
pub record Replays (bytes : List ℕ) (before after : Option (List ℕ))
    (ended : Result Verdict ReplayFault) : Type 0 where
  pub course : Course
  pub rest : List ℕ
  pub heads : Heads bytes course rest
  pub stage : Stage
  pub left : List ℕ
  pub follows : Follows rest course stage left
  pub ends : EndsAt course stage left ended
  pub prints : Prints ended before (text_in course) after

-- the bytes have a header whose program is refused
abbrev pub HasRefusedProgram : List ℕ → Type 0
HasRefusedProgram bytes =
    (version : Version) × (header : PlainHeader) × (rest : List ℕ) ×
    (header_at bytes ≡ Ok ((version, header), rest)) ×
    ((refusal : Refusal) × IsRefused header.program refusal)

-- why a replay of these bytes ends before a record is read
abbrev pub HasNoRun : List ℕ → Result Verdict ReplayFault → Type 0
HasNoRun bytes (Ok v) = ⊥
HasNoRun bytes (Err (Log f)) = MeansRead f (header_at bytes)
HasNoRun bytes (Err (Differs number expected other)) = ⊥
HasNoRun bytes (Err Program) = HasRefusedProgram bytes
HasNoRun bytes (Err Write) = ⊥
HasNoRun bytes (Err Memory) = Unit {0}

-- A replay of these bytes ends so: nothing was printed and no record read, or so far as it came the
-- text was printed.
abbrev pub IsReplay : List ℕ → Option (List ℕ) → Option (List ℕ) → Result Verdict ReplayFault → Type 0
IsReplay bytes before after ended =
    (HasNoRun bytes ended × (after ≡ before)) ⊎ Replays bytes before after ended

-- Where a read failed, so much of the bytes was taken before the rest, and what was printed is what a replay
-- of a log prints that ends there: it is cut, or it is whole.
pub record ReplaysTaken (bytes rest : List ℕ) (before after : Option (List ℕ)) : Type 0 where
  pub taken : List ℕ
  pub is_front : bytes ≡ taken ++ rest
  pub ended : Result Verdict ReplayFault
  pub at_end : IsAtItsEnd ended
  pub replays : IsReplay taken before after ended
