-- Why a replay that followed a log so far ends there.
use Rattle.std.specs.Prelude.{◌≡◌, ℕ, ◌+◌, List, length, Option, Some, None, Result, Ok, Err}
use Rattle.bp_log.specs.Records.{verdict_of}
use Rattle.bp_log.specs.declared.record.Record.{Record}
use Rattle.bp_log.specs.declared.verdict.Verdict.{Verdict}
use Rattle.bp_reading.specs.Reading.{Stage, found, finished, next_at}
use Rattle.bp_reader.specs.Reads.{MeansNext}
use Rattle.bp_reader.specs.declared.fault.LogFault.TheVariants as log
use Rattle.bp_run.specs.Story.{record_of}
use Rattle.bp_replay.specs.declared.fault.ReplayFault.{ReplayFault}
use Rattle.bp_replay.specs.declared.fault.ReplayFault.TheVariants.{Log, Differs, Program, Write, Memory}
use Rattle.bp_replay.specs.Courses.{Course, coming, led}

-- the log has a further record, to which the run does not come: it makes another, or waits
pub record Parts (c : Course) (s : Stage) (left : List ℕ) (number : ℕ)
    (expected : Option Record) (other : Record) : Type 0 where
  pub behind : List ℕ
  pub reads : next_at s left ≡ found other behind
  pub number_is : number ≡ length c.records + 1
  pub differs : led c other ≡ None
  pub expected_is : expected ≡ record_of (coming c)

-- Why a replay that came so far ends so. Where memory ran out or writing failed, nothing is said.
abbrev pub EndsAt : Course → Stage → List ℕ → Result Verdict ReplayFault → Type 0
EndsAt c s left (Ok v) = (next_at s left ≡ finished) × (verdict_of c.records ≡ Some v)
EndsAt c s left (Err (Log f)) = MeansNext f (next_at s left)
EndsAt c s left (Err (Differs number expected other)) = Parts c s left number expected other
EndsAt c s left (Err Program) = ⊥
EndsAt c s left (Err Write) = Unit {0}
EndsAt c s left (Err Memory) = Unit {0}

-- no more was refused than that the log ends there: it is cut, or it is whole
abbrev pub IsAtItsEnd : Result Verdict ReplayFault → Type 0
IsAtItsEnd (Ok v) = Unit {0}
IsAtItsEnd (Err (Log log.Cut)) = Unit {0}
IsAtItsEnd _ = ⊥
