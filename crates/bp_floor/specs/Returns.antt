-- Where jobs that come back stand, until all are back.
use Rattle.std.specs.Prelude.{◌≡◌, ℕ, List, [], ◌∷◌, length, map, ◌≤◌, ◌<◌, Option, Some}
use Rattle.js_program.specs.PlainProgram.{PlainProgram}
use Rattle.js_meaning.specs.Bodies.{Origin, the_top, bare, ground_of}
use Rattle.js_meaning.specs.State.{Ground}
use Rattle.js_value.specs.Value.{PlainSet}
use Rattle.bp_log.specs.declared.limits.TheConstants.{MOST_WAITING, MOST_THREADS}
use Rattle.bp_run.specs.Bodies.{Part, Statement}
use Rattle.bp_run.specs.Configuration.{Stand, Thread, change}
use Rattle.bp_run.specs.Settling.{Entry, Ran, Pair, part_of, body_of, merged}
use Rattle.bp_run.specs.Settling.Entry.{The_top, Runs, Stops}
use Rattle.bp_live.specs.Placing.{placed, live_at}
use Rattle.bp_thread.specs.declared.job.Job.{Job}
use Rattle.bp_thread.specs.Jobs.{plain_job, IsOf, StandsFor}
use Rattle.bp_floor.specs.declared.board.Board.{Board}
use Rattle.bp_code.specs.Code.{sealed_code_of as code_of}
use Rattle.bp_floor.specs.inner.Desks.{Fits}
use Rattle.bp_floor.specs.Forgetting.{forgotten}
use Rattle.bp_floor.specs.inner.Seats.{seated, is_waiting, is_ready, where_from, stated_from, stop_at, AreOwn}
use Rattle.bp_floor.specs.inner.Parts.{unstated_part}
use Rattle.bp_floor.specs.inner.Kept.{runs_in, AreBelow, Running}
use Rattle.bp_floor.specs.Loans.{IsCarried, AreDone, filled, standing}

-- the ground on which these entries run
abbrev pub ground_at : PlainProgram → ℕ → List (Entry Origin) → Ground
ground_at program budget [] = ground_of program budget
ground_at program budget (The_top ∷ ns) = bare program
ground_at program budget (Runs i ∷ ns) = ground_of program budget
ground_at program budget (Stops i b ∷ ns) = ground_of program budget

-- the top level is not among them
abbrev pub AreLater : {O : Type 0} → List (Entry O) → Type 0
AreLater [] = Unit {0}
AreLater (The_top ∷ ns) = ⊥
AreLater (Runs i ∷ ns) = AreLater ns
AreLater (Stops i b ∷ ns) = AreLater ns

-- the top level runs alone
abbrev pub RunsAlone : {O : Type 0} → List (Entry O) → Type 0
RunsAlone [] = Unit {0}
RunsAlone (The_top ∷ ns) = ns ≡ []
RunsAlone (Runs i ∷ ns) = AreLater ns
RunsAlone (Stops i b ∷ ns) = AreLater ns

-- The jobs of these entries are still to be put back.
pub record IsBack (r : Running) (base : Ground) (ns : List (Entry Origin)) (js : List Job) (b : Board)
    : Type 0 where
  pub done : AreDone r.program r.options (standing (filled ns js (map seated b.seats))) ns js
  pub alone : RunsAlone ns
  pub below : AreBelow (length b.seats) ns
  pub own : AreOwn r.program r.options 0 b.seats
  pub waiting : where_from is_waiting 0 b.seats ≡ runs_in ns
  pub ready : where_from is_ready 0 b.seats ≡ []
  pub mirror : b.desk.bench.live ≡ stated_from 0 b.seats
  pub fits : Fits b.desk (ground_of r.program r.options.budget) r.options.budget
  pub few : length b.seats ≤ MOST_THREADS
  pub room : length b.desk.queue ≤ MOST_WAITING
  pub program_is : base.program ≡ r.program
  pub ground_is : base ≡ ground_at r.program r.options.budget ns

-- nothing but b-threads and what they state has changed
pub record IsSameBut (old new : Board) : Type 0 where
  pub queue : new.desk.queue ≡ old.desk.queue
  pub transitions : new.transitions ≡ old.transitions
  pub weight : new.weight ≡ old.weight
  pub lines : new.lines ≡ old.lines
  pub verdict : new.verdict ≡ old.verdict
  pub wave : new.wave ≡ old.wave

-- what a body of these b-threads does, without what it states
abbrev pub part_in : Running → List (Thread Origin) → Entry Origin → Part Origin (Unit {0})
part_in r ts n =
    let l = code_of r.program r.options in unstated_part (part_of l (body_of l (standing ts) n))

-- The job of an entry, if it has a body, is put back, and what the body did is this.
pub record Puts (n : Entry Origin) (js : List Job) (base : Ground) (old : Board) (ks : List Job)
    (left : Ground) (new : Board) (part : Part Origin (Unit {0})) : Type 0 where
  pub back : (r : Running) (ns : List (Entry Origin)) → IsBack r base (n ∷ ns) js old
      → IsBack r left ns ks new
  pub threads : (r : Running) (ns : List (Entry Origin)) → IsBack r base (n ∷ ns) js old
      → filled ns ks (map seated new.seats) ≡ filled (n ∷ ns) js (map seated old.seats)
  pub part_is : (r : Running) (ns : List (Entry Origin)) → IsBack r base (n ∷ ns) js old
      → part ≡ part_in r (filled (n ∷ ns) js (map seated old.seats)) n
  pub same : IsSameBut old new

-- what the b-threads state stands on the bench
abbrev pub IsMirrored : Board → Type 0
IsMirrored b = b.desk.bench.live ≡ stated_from 0 b.seats

-- the b-thread of this number states this, or is not live
pub record IsStated (number : ℕ) (statement : Option (Statement PlainSet)) (old new : Board)
    : Type 0 where
  pub live : new.desk.bench.live ≡ placed number statement old.desk.bench.live
  pub fits : (base : Ground) (budget : ℕ) → IsMirrored old → Fits old.desk base budget
      → Fits new.desk base budget
  pub same : IsSameBut old new

-- a job is in its place, and what it states stands on the bench
pub record IsPut (number : ℕ) (j : Job) (old new : Board) : Type 0 where
  pub statement : Option (Statement PlainSet)
  pub stop_is : (k : ℕ) → stop_at k (plain_job j).outcome ≡ live_at k statement
  pub stated : IsStated number statement old new
  pub seats : new.seats ≡ change (λ s. record s { job = Some j }) number old.seats

-- the effects of a job were taken
pub record IsTaken (j k : Job) : Type 0 where
  pub plain : plain_job k ≡ record (plain_job j) { effects = [] }
  pub of_program : (program : PlainProgram) → IsOf program j → IsOf program k
  pub stands : (base : Ground) (budget : ℕ) → StandsFor base budget j → StandsFor base budget k

-- the constants are those that the top level leaves
abbrev pub IsFilled : Job → Ground → Ground → Type 0
IsFilled j old new =
    (r : Running) (n : ℕ)
    → IsCarried r.program r.options n (record { origin = the_top; replies = [] }) j
    → old ≡ bare r.program → new ≡ ground_of r.program r.options.budget

-- a job whose effects were taken goes to its place: only a b-thread's own is kept
abbrev pub IsKeptBy : Entry Origin → Job → Ground → Board → Ground → Board → Type 0
IsKeptBy The_top j base old left new = (new ≡ old) × IsFilled j base left
IsKeptBy (Runs k) j base old left new = IsPut k j old new × (left ≡ base)
IsKeptBy (Stops k b) j base old left new = (new ≡ old) × (left ≡ base)

-- one that goes on is registered
abbrev pub RunsBelow : ℕ → Entry Origin → Type 0
RunsBelow most The_top = Unit {0}
RunsBelow most (Runs k) = k < most
RunsBelow most (Stops k b) = Unit {0}

-- a body's entry, and what it did
abbrev pub ran_in : Running → List (Thread Origin) → Entry Origin → Ran Origin (Unit {0})
ran_in r ts n = record { entry = n; part = part_in r ts n }

-- All jobs of these entries are back, the b-threads are these, and this is what the bodies did.
pub record AreAllBack (r : Running) (ns : List (Entry Origin)) (ts : List (Thread Origin))
    (left : Ground) (b : Board) (rans : List (Ran Origin (Unit {0}))) : Type 0 where
  pub back : IsBack r left [] [] b
  pub threads : map seated b.seats ≡ ts
  pub rans_are : rans ≡ map (ran_in r ts) ns

abbrev pub entry_in : Ran Origin (Unit {0}) → Entry Origin
entry_in r = r.entry

-- what these bodies did is merged, and those that have ended are forgotten
abbrev pub turned_apart : Running → List (Entry Origin) → List (Thread Origin) → Stand Origin
    → Pair Origin
turned_apart r ns ts s =
    forgotten the_top (merged (map (ran_in r ts) ns)
    (record { stand = record s { threads = ts }; entries = [] }))
