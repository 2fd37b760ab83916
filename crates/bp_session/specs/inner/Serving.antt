-- A run that is served.
use Rattle.std.specs.Prelude.{Result, Ok, Err, ◌≡◌, ℕ, Bool, false, IsTrue, List, ◌++◌, length, take, Option, Some, None, IsSome}
use Rattle.js_value.specs.Value.{PlainSet}
use Rattle.js_meaning.specs.Bodies.{Origin}
use Rattle.bp_log.specs.Options.{PlainOptions}
use Rattle.bp_log.specs.Records.{verdict_of, is_complete}
use Rattle.bp_log.specs.Texts.{lines_text}
use Rattle.bp_log.specs.declared.record.Record.{Record}
use Rattle.bp_log.specs.declared.trace.Line.{Line}
use Rattle.bp_log.specs.declared.verdict.Verdict as logs
use Rattle.bp_run.specs.Bodies.{Code}
use Rattle.bp_run.specs.Text.{text}
use Rattle.bp_steps.specs.Merging.{items_by}
use Rattle.bp_steps.specs.Steps.{Moment}
use Rattle.bp_floor.specs.declared.phase.Phase.TheVariants.{Rest}
use Rattle.bp_arbiter.specs.Arbiters.{Tells, code_in, options_in, stand_in}
use Rattle.bp_core.specs.declared.stepping.Core.{Core}
use Rattle.bp_core.specs.Cores.{KeepsProgram}
use Rattle.bp_told.specs.Order.{Texts, PrintsBehind}
use Rattle.bp_told.specs.Told.{Given, Waiting, IsTold, IsBroken, IsWritten, IsPartly, WritesAll}
use Rattle.bp_told.specs.declared.fault.RunFault.{RunFault}
use Rattle.bp_turns.specs.Settled.{IsHere}
use Rattle.bp_told.specs.declared.fault.RunFault.TheVariants as fault
use Rattle.bp_session.specs.declared.reading.Reading.{Reading}
use Rattle.bp_session.specs.inner.Readings.{HasFailed}
use Rattle.bp_session.specs.Reports.{HasNoVerdict}
use Rattle.bp_session.specs.declared.stop.Stop.{Stop}
use Rattle.bp_session.specs.declared.stop.Stop.TheVariants as stop
use Rattle.bp_session.specs.declared.report.Ending.{Ending}
use Rattle.bp_session.specs.declared.report.Ending.TheVariants.{Verdict, Read, Write, LogWrite, Memory}

-- the ending that a fault comes to
abbrev pub ending_of : RunFault → Ending
ending_of fault.Write = Write
ending_of fault.LogWrite = LogWrite
ending_of fault.Memory = Memory

-- Memory ran out as the run was served, or a source failed: what is not told yet is told then, for which
-- memory may run out too.
abbrev pub MayLackMemory : Result logs.Verdict Stop → Type 0
MayLackMemory (Ok v) = ⊥
MayLackMemory (Err (stop.Read j)) = Unit {0}
MayLackMemory (Err (stop.Broken f)) = f ≡ fault.Memory
MayLackMemory (Err (stop.Unwritten f)) = f ≡ fault.Memory

-- serving broke off while the run was told or for want of memory, and what waits may still be written
abbrev pub MayStillWrite : Result logs.Verdict Stop → Type 0
MayStillWrite (Ok v) = ⊥
MayStillWrite (Err (stop.Read j)) = ⊥
MayStillWrite (Err (stop.Broken f)) = ¬ (f ≡ fault.LogWrite)
MayStillWrite (Err (stop.Unwritten f)) = ⊥

-- the injector whose source failed, where that ended it
abbrev pub broke_at : Ending → Option ℕ
broke_at (Verdict v) = None
broke_at (Read j) = Some j
broke_at Write = None
broke_at LogWrite = None
broke_at Memory = None

module _ {L : Type 0} (written : L → Option (List ℕ)) where
  -- The run of this code is served: the core is at some moment of it, and since the first moment
  -- the first of its records, and the lines that were taken of it, were told.
  pub record IsServing (l : Code Origin PlainSet) (o : PlainOptions) (head : List ℕ)
      (first : Given L) (c : Core) (now : Given L) (w : Waiting) : Type 0 where
    pub code : code_in c.arbiter ≡ l
    pub options : options_in c.arbiter ≡ o
    pub taken : List Line
    pub moment : Moment Origin
    pub here : IsHere c taken moment
    pub told : IsTold L written (text l o) head first now w (take w.kept c.arbiter.records) taken

  -- some run is served so
  pub record IsReady (c : Core) (now : Given L) (w : Waiting) : Type 0 where
    pub code : Code Origin PlainSet
    pub options : PlainOptions
    pub head : List ℕ
    pub first : Given L
    pub serving : IsServing code options head first c now w

  -- whatever run was served is served then
  abbrev pub ServesOn : Core → Given L → Waiting → Core → Given L → Waiting → Type 0
  ServesOn before old a after new b =
      (l : Code Origin PlainSet) (o : PlainOptions) (head : List ℕ) (first : Given L)
      → IsServing l o head first before old a → IsServing l o head first after new b

  -- Serving broke off: the records are a story, and telling a front of them broke off.
  pub record IsBrokenOff (l : Code Origin PlainSet) (o : PlainOptions) (head : List ℕ)
      (first : Given L) (c : Core) (now : Given L) (w : Waiting) (fault : RunFault) : Type 0 where
    pub story : IsSome (text l o c.arbiter.records)
    pub front : List Record
    pub later : List Record
    pub lines : List Line
    pub is_front : front ++ later ≡ c.arbiter.records
    pub broken : IsBroken L written (text l o) head first now w front lines fault

  abbrev pub BreaksServing : Core → Given L → Waiting → Core → Given L → Waiting → RunFault → Type 0
  BreaksServing before old a after new b fault =
      (l : Code Origin PlainSet) (o : PlainOptions) (head : List ℕ) (first : Given L)
      → IsServing l o head first before old a → IsBrokenOff l o head first after new b fault

  -- all records and the whole text of them were told
  pub record IsAllTold (l : Code Origin PlainSet) (o : PlainOptions) (head : List ℕ)
      (first : Given L) (c : Core) (now : Given L) (w : Waiting) : Type 0 where
    pub lines : List Line
    pub text_is : text l o c.arbiter.records ≡ Some (lines_text lines)
    pub told : IsTold L written (text l o) head first now w c.arbiter.records lines

  abbrev pub TellsAll : Core → Given L → Waiting → Core → Given L → Waiting → Type 0
  TellsAll before old a after new b =
      (l : Code Origin PlainSet) (o : PlainOptions) (head : List ℕ) (first : Given L)
      → IsServing l o head first before old a → IsAllTold l o head first after new b

  -- all records and the whole text of them were written
  pub record IsAllWritten (l : Code Origin PlainSet) (o : PlainOptions) (head : List ℕ)
      (first : Given L) (c : Core) (now : Given L) : Type 0 where
    pub lines : List Line
    pub text_is : text l o c.arbiter.records ≡ Some (lines_text lines)
    pub written_all : IsWritten L written head first now c.arbiter.records lines
    pub behind : PrintsBehind written (text l o) head c.arbiter.records first.printed now.printed
        first.log now.log

  -- whatever run was served, all of it was written
  abbrev pub WritesRun : Core → Given L → Waiting → Core → Given L → Type 0
  WritesRun before old a after new =
      (l : Code Origin PlainSet) (o : PlainOptions) (head : List ℕ) (first : Given L)
      → IsServing l o head first before old a → IsAllWritten l o head first after new

  -- a front of the records and a front of their lines were written
  pub record IsFrontWritten (l : Code Origin PlainSet) (o : PlainOptions) (head : List ℕ)
      (first : Given L) (c : Core) (now : Given L) : Type 0 where
    pub story : IsSome (text l o c.arbiter.records)
    pub front : List Record
    pub later : List Record
    pub lines : List Line
    pub is_front : front ++ later ≡ c.arbiter.records
    pub part : IsPartly L written (text l o) head first now front lines

  -- whatever was told is told still
  abbrev pub StillTold : Given L → Waiting → Given L → Waiting → Type 0
  StillTold old a new b =
      (text : Texts) (head : List ℕ) (first : Given L) (records : List Record) (lines : List Line)
      → IsTold L written text head first old a records lines
      → IsTold L written text head first new b records lines

  -- or a front of it was written
  abbrev pub PartTold : Given L → Waiting → Given L → Type 0
  PartTold old a new =
      (text : Texts) (head : List ℕ) (first : Given L) (records : List Record) (lines : List Line)
      → IsTold L written text head first old a records lines
      → IsPartly L written text head first new records lines

  -- what was told is told still, and all of it was written, if it was to be
  pub record IsToldStill (write : Bool) (old : Given L) (a : Waiting) (new : Given L) (b : Waiting)
      : Type 0 where
    pub still : StillTold old a new b
    pub all : IsTrue write → WritesAll written old a new b

  -- A turn or a wait stopped. If memory ran out, what was told is told still. If writing failed, a
  -- front of it was written, and memory did not run out.
  abbrev pub StopsTurning : Given L → Waiting → Given L → Waiting → Stop → Type 0
  StopsTurning old a new b (stop.Read j) = ⊥
  StopsTurning old a new b (stop.Broken f) = (f ≡ fault.Memory) × StillTold old a new b
  StopsTurning old a new b (stop.Unwritten f) = (¬ (f ≡ fault.Memory)) × PartTold old a new

  -- what is known of the run where serving stopped
  abbrev pub IsStopped : {S : Type 0} → Code Origin PlainSet → PlainOptions → List ℕ → Given L →
      Core → Given L → Waiting → List (Reading S) → Stop → Type 0
  IsStopped l o head first c now w readings (stop.Read j) =
      IsServing l o head first c now w × HasFailed readings j × (c.arbiter.phase ≡ Rest)
  IsStopped l o head first c now w readings (stop.Broken f) = IsBrokenOff l o head first c now w f
  IsStopped l o head first c now w readings (stop.Unwritten f) =
      (¬ (f ≡ fault.Memory)) × IsFrontWritten l o head first c now

  abbrev pub StopsServing : {S : Type 0} → Core → Given L → Waiting → Core → Given L → Waiting →
      List (Reading S) → Stop → Type 0
  StopsServing before old a after new b readings s =
      (l : Code Origin PlainSet) (o : PlainOptions) (head : List ℕ) (first : Given L)
      → IsServing l o head first before old a → IsStopped l o head first after new b readings s

  -- what is known of the run once it was served: it has its verdict, and all of it was written, or
  -- serving stopped
  abbrev pub IsServedTo : {S : Type 0} → Code Origin PlainSet → PlainOptions → List ℕ → Given L →
      Core → Given L → Waiting → List (Reading S) → Result logs.Verdict Stop → Type 0
  IsServedTo l o head first c now w readings (Ok v) =
      (verdict_of c.arbiter.records ≡ Some v) × IsAllWritten l o head first c now
  IsServedTo l o head first c now w readings (Err s) = IsStopped l o head first c now w readings s

  -- where an injector failed, the rest can be told
  abbrev pub CanTellRest : Core → Given L → Waiting → Result logs.Verdict Stop → Type 0
  CanTellRest c now w (Ok v) = Unit {0}
  CanTellRest c now w (Err (stop.Read j)) = IsReady c now w × (c.arbiter.phase ≡ Rest)
  CanTellRest c now w (Err (stop.Broken f)) = Unit {0}
  CanTellRest c now w (Err (stop.Unwritten f)) = Unit {0}

  -- what is known of the run at this ending
  abbrev pub IsEnded : Code Origin PlainSet → PlainOptions → List ℕ → Given L → Core → Given L →
      Ending → Type 0
  IsEnded l o head first c now (Verdict v) =
      (verdict_of c.arbiter.records ≡ Some v) × IsAllWritten l o head first c now
  IsEnded l o head first c now (Read j) =
      (is_complete c.arbiter.records ≡ false) × IsAllWritten l o head first c now
      × HasNoVerdict l o c.arbiter.records
  IsEnded l o head first c now Write = IsFrontWritten l o head first c now
  IsEnded l o head first c now LogWrite = IsFrontWritten l o head first c now
  IsEnded l o head first c now Memory = IsFrontWritten l o head first c now

  -- whatever run was served has ended so
  pub record EndsServing (before : Core) (old : Given L) (a : Waiting) (after : Core)
      (new : Given L) (end : Ending) : Type 0 where
    pub ends : (l : Code Origin PlainSet) (o : PlainOptions) (head : List ℕ) (first : Given L)
        → IsServing l o head first before old a → IsEnded l o head first after new end

-- Nothing of the run is untold: as many records were told as the core has, and it has no line left to
-- take.
pub record NothingUntold (c : Core) (w : Waiting) : Type 0 where
  pub records : w.kept ≡ length c.arbiter.records
  pub lines : length (stand_in c.arbiter).lines ≡ 0

-- wherever the core was, it is there still
abbrev pub StaysThere : Core → Core → Type 0
StaysThere old new =
    (taken : List Line) (m : Moment Origin) → IsHere old taken m → IsHere new taken m

-- the core is at a moment with more records
pub record IsLedTo (old new : Core) (taken : List Line) : Type 0 where
  pub moment : Moment Origin
  pub here : IsHere new taken moment
  pub more : List Record
  pub records : new.arbiter.records ≡ old.arbiter.records ++ more

-- memory ran out, and more records are there or none
pub record IsCutAt (old new : Core) (taken : List Line) : Type 0 where
  pub tells : Tells new.arbiter taken
  pub more : List Record
  pub records : new.arbiter.records ≡ old.arbiter.records ++ more

-- wherever the core was, it was led on
abbrev pub LeadsOn : Core → Core → Type 0
LeadsOn old new =
    (taken : List Line) (m : Moment Origin) → IsHere old taken m → IsLedTo old new taken

-- wherever the core was, memory ran out then
abbrev pub CutsAt : Core → Core → Type 0
CutsAt old new =
    (taken : List Line) (m : Moment Origin) → IsHere old taken m → IsCutAt old new taken

-- what was recorded of injectors stays
abbrev pub KeepsItems : List Record → List Record → Type 0
KeepsItems old new = (k : ℕ) → items_by k new ≡ items_by k old

-- the same run at the same moment, but for the lines that were taken of it
pub record KeepsRun (old new : Core) : Type 0 where
  pub records : new.arbiter.records ≡ old.arbiter.records
  pub phase : new.arbiter.phase ≡ old.arbiter.phase
  pub program : KeepsProgram old.arbiter new.arbiter
  pub inside : new.out ≡ old.out
