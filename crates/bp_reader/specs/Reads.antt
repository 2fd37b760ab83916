-- What a reader of a log tells.
use Rattle.std.specs.Prelude.{◌≡◌, ℕ, ◌<◌, true, false, List, [], Option, Some, None, Result, Ok, Err, IfSome, IsSomeAnd}
use Rattle.bp_log.specs.declared.record.Record.{Record}
use Rattle.bp_reading.specs.declared.limits.TheConstants.{MOST_RECORDS}
use Rattle.bp_reading.specs.Reading.{Stage, Next, found, finished, refused, after as stage_after}
use Rattle.bp_reader.specs.declared.fault.LogFault.{LogFault}
use Rattle.bp_reader.specs.Gets.{refusal_of}

-- where a reader stands: the bytes still to come, where the source tells them, how often it failed,
-- which of the bytes the source itself has still, what is known of the records before, and what was
-- refused
pub record Standing : Type 0 where
  pub left : Option (List ℕ)
  pub faults : ℕ
  pub source : Option (List ℕ)
  pub stage : Stage
  pub refusal : Option LogFault

-- what stands next is the refusal that the fault tells
abbrev pub MeansNext : LogFault → Next → Type 0
MeansNext f next = IfSome (refusal_of f) (λ r. next ≡ refused r)

-- the answer is what stands next in the bytes; after the end nothing is left
abbrev pub Tells : Result (Option Record) LogFault → Next → Option (List ℕ) → Type 0
Tells (Ok (Some r)) next after = IsSomeAnd after (λ rest. next ≡ found r rest)
Tells (Ok None) next after = (next ≡ finished) × (after ≡ Some [])
Tells (Err f) next after = MeansNext f next

abbrev pub TellsRecord : Result Record LogFault → Next → Option (List ℕ) → Type 0
TellsRecord (Ok r) next after = IsSomeAnd after (λ rest. next ≡ found r rest)
TellsRecord (Err f) next after = MeansNext f next

-- the stage after an answer
abbrev pub IsStageAfter : Stage → Result (Option Record) LogFault → Stage → Type 0
IsStageAfter before (Ok (Some r)) s = s ≡ stage_after before r
IsStageAfter before (Ok None) s = s ≡ before
IsStageAfter before (Err f) s = s ≡ before

-- A record comes where none before was the end, and fewer than the most came; after the end no record
-- comes.
abbrev pub ComesInTime : Stage → Result (Option Record) LogFault → Type 0
ComesInTime s (Ok (Some r)) = (s.ended ≡ false) × (s.lines < MOST_RECORDS)
ComesInTime s (Ok None) = s.ended ≡ true
ComesInTime s (Err f) = Unit {0}

-- a refusal is kept
abbrev pub IsRefusalAfter : Result (Option Record) LogFault → Option LogFault → Type 0
IsRefusalAfter (Ok x) kept = kept ≡ None
IsRefusalAfter (Err f) kept = kept ≡ Some f
