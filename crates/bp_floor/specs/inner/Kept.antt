-- What a board keeps of its b-threads while they run.
use Rattle.std.specs.Prelude.{◌≡◌, ℕ, suc, ◌≤◌, ◌<◌, List, [], ◌∷◌, Option, Some, None, length}
use Rattle.std.specs.List.{filter_map}
use Rattle.js_meaning.specs.Bodies.{ground_of}
use Rattle.js_meaning.specs.State.{Ground}
use Rattle.js_program.specs.PlainProgram.{PlainProgram}
use Rattle.bp_log.specs.Options.{PlainOptions}
use Rattle.bp_log.specs.declared.limits.TheConstants.{MOST_WAITING, MOST_THREADS}
use Rattle.bp_run.specs.Settling.{Entry}
use Rattle.bp_run.specs.Settling.Entry.{The_top, Runs, Stops}
use Rattle.bp_floor.specs.declared.board.Board.{Board}
use Rattle.bp_floor.specs.inner.Desks.{Fits}
use Rattle.bp_floor.specs.inner.Seats.{is_waiting, is_ready, where_from, stated_from, AreOwn}

abbrev pub run_of : {O : Type 0} → Entry O → Option ℕ
run_of The_top = None
run_of (Runs i) = Some i
run_of (Stops i b) = None

-- the b-threads that go on
abbrev pub runs_in : {O : Type 0} → List (Entry O) → List ℕ
runs_in ns = filter_map run_of ns

-- each number is at least this
abbrev pub AreFrom : ℕ → List ℕ → Type 0
AreFrom first [] = Unit {0}
AreFrom first (n ∷ ns) = (first ≤ n) × AreFrom first ns

-- each number is above the one before it
abbrev pub Rises : List ℕ → Type 0
Rises [] = Unit {0}
Rises (n ∷ ns) = AreFrom (suc n) ns × Rises ns

-- the b-thread of an entry is among the first this many
abbrev pub IsBelow : {O : Type 0} → ℕ → Entry O → Type 0
IsBelow most The_top = Unit {0}
IsBelow most (Runs i) = i < most
IsBelow most (Stops i b) = i < most

abbrev pub AreBelow : {O : Type 0} → ℕ → List (Entry O) → Type 0
AreBelow most [] = Unit {0}
AreBelow most (n ∷ ns) = IsBelow most n × AreBelow most ns

-- a program that runs under its options
pub record Running : Type 0 where
  pub program : PlainProgram
  pub options : PlainOptions

-- the ground and the options with which its b-threads run
pub record IsOn (r : Running) (base : Ground) (o : PlainOptions) : Type 0 where
  pub program_is : base.program ≡ r.program
  pub ground_is : base ≡ ground_of r.program r.options.budget
  pub options_are : o ≡ r.options

-- The jobs are the b-threads' own; those that have no outcome are to be run, and were registered after
-- the first this many; what is stated stands on the bench.
pub record IsKept (r : Running) (first : ℕ) (b : Board) : Type 0 where
  pub own : AreOwn r.program r.options 0 b.seats
  pub waiting : where_from is_waiting 0 b.seats ≡ runs_in b.wave
  pub ready : where_from is_ready 0 b.seats ≡ runs_in b.wave
  pub mirror : b.desk.bench.live ≡ stated_from 0 b.seats
  pub fits : Fits b.desk (ground_of r.program r.options.budget) r.options.budget
  pub fresh : AreFrom first (runs_in b.wave)
  pub older : first ≤ length b.seats
  pub few : length b.seats ≤ MOST_THREADS
  pub room : length b.desk.queue ≤ MOST_WAITING
