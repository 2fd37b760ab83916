-- The records of a log, read one by one, and their text, put on a page that is written whenever it is full.
use Rattle.std.specs.Prelude.{◌≡◌, ℕ, List, ◌++◌, Option, Result, Ok, Err}
use Rattle.bp_log.specs.Logs.{records_text}
use Rattle.bp_log.specs.declared.record.Record.{Record}
use Rattle.bp_reading.specs.Reading.{Stage, BeginsWith, finished, next_at}
use Rattle.bp_reader.specs.Reads.{MeansNext}
use Rattle.bp_reader.specs.declared.fault.LogFault.TheVariants as log
use Rattle.bp_told.specs.Pages.{Shows, ShowsFront}
use Rattle.bp_migrate.specs.declared.fault.MigrateFault.{MigrateFault}
use Rattle.bp_migrate.specs.declared.fault.MigrateFault.TheVariants.{Log, Write, Memory}

-- Why it ends so at this stage, where these bytes are left. Where memory ran out or writing failed,
-- nothing is said.
abbrev pub EndsAt : Stage → List ℕ → Result (Unit {0}) MigrateFault → Type 0
EndsAt s left (Ok x) = next_at s left ≡ finished
EndsAt s left (Err (Log f)) = MeansNext f (next_at s left)
EndsAt s left (Err Write) = Unit {0}
EndsAt s left (Err Memory) = Unit {0}

-- the text was put on the page, and what was on it is written or still there; of a front after a failed
-- write or out of memory
abbrev pub Shown : Result (Unit {0}) MigrateFault →
    Option (List ℕ) → List ℕ → List ℕ → Option (List ℕ) → Type 0
Shown (Err Write) before text page after = ShowsFront before text page after
Shown (Err Memory) before text page after = ShowsFront before text page after
Shown _ before text page after = Shows before text page after

-- from the first stage on the bytes were read so far, the text of these records was put after what
-- was on the page, and so it ended
pub record Copies (first : Stage) (bytes page : List ℕ) (before : Option (List ℕ)) (next : List ℕ)
    (after : Option (List ℕ)) (ended : Result (Unit {0}) MigrateFault) : Type 0 where
  pub records : List Record
  pub stage : Stage
  pub left : List ℕ
  pub begins : BeginsWith first bytes records stage left
  pub ends : EndsAt stage left ended
  pub shown : Shown ended before (page ++ records_text records) next after

-- no more was refused than that the log ends there: it is cut, or it is whole
abbrev pub IsAtItsEnd : Result (Unit {0}) MigrateFault → Type 0
IsAtItsEnd (Ok x) = Unit {0}
IsAtItsEnd (Err (Log log.Cut)) = Unit {0}
IsAtItsEnd _ = ⊥

-- where a read failed, so much of the bytes was taken before the rest, and was copied as a log that ends
-- there
pub record CopiesTaken (first : Stage) (bytes rest page : List ℕ) (before : Option (List ℕ))
    (next : List ℕ) (after : Option (List ℕ)) : Type 0 where
  pub taken : List ℕ
  pub is_front : bytes ≡ taken ++ rest
  pub ended : Result (Unit {0}) MigrateFault
  pub at_end : IsAtItsEnd ended
  pub copies : Copies first taken page before next after ended
