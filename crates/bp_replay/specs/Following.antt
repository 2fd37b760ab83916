-- An arbiter that follows a log.
use Rattle.std.specs.Prelude.{◌≡◌, ℕ, ◌<◌, Bool, true, false, ◌&&◌, nat_eq, List, [], ◌∷◌, ◌++◌, Option, Some, None, Result, Ok, Err, IsSome}
use Rattle.std.specs.List.{list_any}
use Rattle.bp_log.specs.Records.{is_complete, verdict_of}
use Rattle.bp_log.specs.declared.item.Item.{Item}
use Rattle.bp_log.specs.declared.item.Item.TheVariants as item
use Rattle.bp_log.specs.declared.version.Version.{Version}
use Rattle.bp_log.specs.declared.record.Record.{Record}
use Rattle.bp_log.specs.declared.record.Record.TheVariants.{In, Bad, Eof, Sel, End}
use Rattle.bp_log.specs.declared.trace.Line.{Line}
use Rattle.bp_log.specs.declared.verdict.Verdict.{Verdict}
use Rattle.js_program.specs.PlainProgram.{PlainProgram}
use Rattle.js_meaning.specs.Bodies.{Origin}
use Rattle.bp_log.specs.Options.{PlainOptions}
use Rattle.bp_reading.specs.Reading.{Next as Reads, finished, Stage}
use Rattle.bp_reader.specs.Reads.{MeansNext}
use Rattle.bp_run.specs.Configuration.{Configuration, Stand}
use Rattle.bp_run.specs.Settling.{initial}
use Rattle.bp_code.specs.Code.{sealed_code_of as code_of}
use Rattle.bp_run.specs.Story.{has_room, record_of}
use Rattle.bp_floor.specs.declared.phase.Phase.{Phase}
use Rattle.bp_floor.specs.declared.phase.Phase.TheVariants.{Ready, Lent, Rest, Over}
use Rattle.bp_arbiter.specs.Arbiters.{PlainArbiter, options_in, is_lent}
use Rattle.bp_arbiter.specs.Arbiters as arbiter
use Rattle.bp_told.specs.Pages.{Shows, ShowsFront}
use Rattle.bp_turns.specs.Turning.{StandsAfter}
use Rattle.bp_replay.specs.declared.fault.ReplayFault.{ReplayFault}
use Rattle.bp_replay.specs.declared.fault.ReplayFault.TheVariants.{Log, Differs, Program, Write, Memory}
use Rattle.bp_replay.specs.Courses.{Course, code_in, coming, led, IsTold, text_in, Follows}
use Rattle.bp_replay.specs.Endings.{EndsAt, IsAtItsEnd}

-- only injectors that are there are read
abbrev pub ReadsBelow : {O : Type 0} → ℕ → Configuration O → Type 0
ReadsBelow n c = (j : ℕ) → list_any (nat_eq j) c.reading ≡ true → j < n

-- the arbiter runs the program of the course, whose records are a story without an end
pub record Runs (c : Course) (a : PlainArbiter) : Type 0 where
  pub code : arbiter.code_in a ≡ code_in c
  pub options : options_in a ≡ c.options
  pub told : IsTold c
  pub going : is_complete c.records ≡ false
  pub reads : ReadsBelow c.options.injectors c.told

-- before anything was recorded
abbrev pub first_course : Version → PlainProgram → PlainOptions → Course
first_course version program options = record {
  version = version;
  program = program;
  options = options;
  records = [];
  told = initial (code_of program options) options.injectors;
}

abbrev pub first_of : Version → PlainArbiter → Course
first_of version a = first_course version a.floor.base.program (options_in a)

-- Where the run has ended the verdict's line is left out; it has ended exactly at `Over`.
pub record IsSaid (a : PlainArbiter) (lines said : List Line) : Type 0 where
  pub going : verdict_of a.records ≡ None → said ≡ lines
  pub ended : IsSome (verdict_of a.records) →
      (before : List Line) (last : Line) → lines ≡ before ++ last ∷ [] → said ≡ before
  pub over : a.phase ≡ Over → IsSome (verdict_of a.records)

-- The arbiter's records are those of the course, and these lines of it were taken; what is to be run
-- next may not have run.
pub record IsOnWay (c : Course) (taken : List Line) (a : PlainArbiter) : Type 0 where
  pub runs : Runs c a
  pub records : a.records ≡ c.records
  pub unlent : is_lent a.phase ≡ false
  pub stands : StandsAfter a taken
  pub more : List Line
  pub lines : c.told.stand.lines ≡ taken ++ more

-- where it has come to rest, or to a verdict of its run that the log has still to say
abbrev pub StaysAt : Course → PlainArbiter → Phase → Type 0
StaysAt c a Ready = ⊥
StaysAt c a Lent = ⊥
StaysAt c a Rest = (a.records ≡ c.records) × StandsAfter a c.told.stand.lines
StaysAt c a Over =
    (v : Verdict) × (a.records ≡ c.records ++ End v ∷ []) × (c.told.stand.verdict ≡ Some v)

-- All that is to be run has run, and the lines of the course were taken.
pub record IsThere (c : Course) (a : PlainArbiter) : Type 0 where
  pub runs : Runs c a
  pub stays : StaysAt c a a.phase

abbrev pub IsSomewhere : PlainArbiter → Type 0
IsSomewhere a = (c : Course) × IsThere c a

abbrev pub IsOnSomeWay : PlainArbiter → Type 0
IsOnSomeWay a = (c : Course) × (taken : List Line) × IsOnWay c taken a

-- the record is that of an item of an injector
abbrev pub is_item : Record → Bool
is_item (In j e) = true
is_item (Bad j n) = true
is_item (Eof j) = true
is_item (Sel e) = false
is_item (End v) = false

-- this injector said it, as this item
abbrev pub IsSaidBy : Record → ℕ → Item → Type 0
IsSaidBy (In j e) k i = (k ≡ j) × (i ≡ item.Offered e)
IsSaidBy (Bad j n) k i = (k ≡ j) × (i ≡ item.Bad n)
IsSaidBy (Eof j) k i = (k ≡ j) × (i ≡ item.End)
IsSaidBy (Sel e) k i = ⊥
IsSaidBy (End v) k i = ⊥

-- the record is that of an item which may enter, where these injectors are read and the b-threads stand
-- so, without a verdict
abbrev pub enters : {O : Type 0} → List ℕ → Stand O → Record → Bool
enters reading stand (In j e) = list_any (nat_eq j) reading && has_room stand
enters reading stand (Bad j n) = list_any (nat_eq j) reading
enters reading stand (Eof j) = list_any (nat_eq j) reading
enters reading stand (Sel e) = false
enters reading stand (End v) = false

-- the course with one more record, which leads there
abbrev pub onto : Course → Record → Configuration Origin → Course
onto c r d = record c { records = c.records ++ r ∷ []; told = d }

-- what stands after an end is not followed
abbrev pub GoesOn : Course → Record → Configuration Origin → PlainArbiter → Type 0
GoesOn c (End v) d a = a.records ≡ c.records ++ End v ∷ []
GoesOn c r d a = IsOnWay (onto c r d) c.told.stand.lines a

-- the record was made
abbrev pub Makes : Course → Record → PlainArbiter → Type 0
Makes c r a = (d : Configuration Origin) × (led c r ≡ Some d) × GoesOn c r d a

-- what was made is the record, or is another
abbrev pub Compared : Record → Record → ℕ → Result (Unit {0}) ReplayFault → Type 0
Compared made r n (Ok x) = made ≡ r
Compared made r n (Err (Log f)) = ⊥
Compared made r n (Err (Differs number expected other)) =
    (number ≡ n) × (other ≡ r) × (expected ≡ Some made) × ¬ (made ≡ r)
Compared made r n (Err Program) = ⊥
Compared made r n (Err Write) = ⊥
Compared made r n (Err Memory) = Unit {0}

-- the record was made, or it is another than the run makes next
abbrev pub Followed : Course → Record → ℕ → PlainArbiter → Result (Unit {0}) ReplayFault → Type 0
Followed c r n a (Ok x) = Makes c r a
Followed c r n a (Err (Log f)) = ⊥
Followed c r n a (Err (Differs number expected other)) =
    (number ≡ n) × (other ≡ r) × (led c r ≡ None) × (expected ≡ record_of (coming c))
Followed c r n a (Err Program) = ⊥
Followed c r n a (Err Write) = ⊥
Followed c r n a (Err Memory) = Unit {0}

-- the text was put on the page, and what was on it is written or still there; of a front after a failed
-- write or out of memory
abbrev pub Shown : Result Verdict ReplayFault →
    Option (List ℕ) → List ℕ → List ℕ → Option (List ℕ) → Type 0
Shown (Err Write) before text page after = ShowsFront before text page after
Shown (Err Memory) before text page after = ShowsFront before text page after
Shown _ before text page after = Shows before text page after

-- where nothing but the end may stand next
abbrev pub Finishes : Verdict → Reads → Result Verdict ReplayFault → Type 0
Finishes v next (Ok w) = (w ≡ v) × (next ≡ finished)
Finishes v next (Err (Log f)) = MeansNext f next
Finishes v next (Err (Differs number expected other)) = ⊥
Finishes v next (Err Program) = ⊥
Finishes v next (Err Write) = Unit {0}
Finishes v next (Err Memory) = Unit {0}

-- the records that are still to be read were followed so far, from the first of this course on, and so
-- it ended
pub record Tells (first : Course) (rest : List ℕ) (before : Option (List ℕ)) (page : List ℕ)
    (after : Option (List ℕ)) (ended : Result Verdict ReplayFault) : Type 0 where
  pub course : Course
  pub program : course.program ≡ first.program
  pub options : course.options ≡ first.options
  pub version : course.version ≡ first.version
  pub stage : Stage
  pub left : List ℕ
  pub follows : Follows rest course stage left
  pub ends : EndsAt course stage left ended
  pub shown : Shown ended before (text_in course) page after

-- where a read failed, so much of the bytes was taken before the rest, and was followed as a log that ends
-- there
pub record TellsTaken (first : Course) (bytes rest : List ℕ) (before : Option (List ℕ))
    (page : List ℕ) (after : Option (List ℕ)) : Type 0 where
  pub taken : List ℕ
  pub is_front : bytes ≡ taken ++ rest
  pub ended : Result Verdict ReplayFault
  pub at_end : IsAtItsEnd ended
  pub tells : Tells first taken before page after ended
