-- An event reaches b-threads, one after the other.
use Rattle.std.specs.Prelude.{◌≡◌, ℕ, true, false, List, [], ◌∷◌, ◌++◌, ◌+◌, Option, Some, None, length, map, slice_get, ◌≤◌, IsSome}
use Rattle.std.specs.List.{filter_map}
use Rattle.js_data.specs.Event.{PlainEvent}
use Rattle.js_value.specs.Value as value
use Rattle.js_value.specs.Value.{PlainValue}
use Rattle.js_program.specs.declared.builtin.Mode.TheVariants as mode
use Rattle.js_meaning.specs.State.{Ground}
use Rattle.js_meaning.specs.Bodies.{Origin, function, ground_of}
use Rattle.js_program.specs.PlainProgram.{PlainProgram}
use Rattle.bp_log.specs.declared.limits.TheConstants.{MOST_WAITING, MOST_THREADS}
use Rattle.bp_run.specs.Configuration.{Stand, change}
use Rattle.bp_run.specs.Settling.{Body, Entry, Pair}
use Rattle.bp_run.specs.Story.{touch_all, without, line_of_choice}
use Rattle.bp_run.specs.Choosing.{Touched, Touched as to}
use Rattle.bp_run.specs.Numbers.{number_in}
use Rattle.bp_meaning.specs.After.{handler}
use Rattle.bp_select.specs.Answers.{move_of}
use Rattle.bp_thread.specs.declared.job.Job.{Job}
use Rattle.bp_thread.specs.Jobs.{plain_job, IsOf, StandsFor, IsFresh, is_stopped}
use Rattle.bp_floor.specs.declared.board.Board.{Board}
use Rattle.bp_floor.specs.inner.Desks.{Fits}
use Rattle.bp_floor.specs.declared.touching.Touch.{Touch}
use Rattle.bp_floor.specs.declared.touching.Touch.TheVariants.{Moves, Interrupts}
use Rattle.bp_floor.specs.inner.Seats.{PlainSeat, seated, is_waiting, is_ready, where_from, stated_from, AreOwn}
use Rattle.bp_floor.specs.inner.Kept.{Running, Rises}
use Rattle.bp_floor.specs.Returns.{IsSameBut, IsStated}

abbrev pub touch_seen : Touch → Touched
touch_seen (Moves i) = to.Moves i
touch_seen (Interrupts i) = to.Interrupts i

-- the run of a handler at an event
abbrev pub handler_at : PlainEvent → PlainValue → Body Origin
handler_at e f = record { origin = function mode.Handler f (value.event e ∷ []); replies = [] }

-- where its outcome is there, the handler of a job is that of its body
abbrev pub HasHandler : Job → Type 0
HasHandler j =
    (base : Ground) (budget : ℕ) → StandsFor base budget j → IsSome (plain_job j).outcome
    → (plain_job j).handler ≡ handler base budget (plain_job j).origin (plain_job j).replies

-- a b-thread that stands at its synchronisation point
pub record IsStanding (o : Option PlainSeat) : Type 0 where
  pub seat : PlainSeat
  pub job : Job
  pub is_seat : o ≡ Some seat
  pub is_job : seat.job ≡ Some job
  pub going : seat.ended ≡ false
  pub stopped : is_stopped (plain_job job).outcome ≡ true
  pub effects : (plain_job job).effects ≡ []

-- it receives the event
pub record IsGivenTo (e : PlainEvent) (i : ℕ) (old new : List PlainSeat) : Type 0 where
  pub job : Job
  pub given : Job
  pub old_is : (s : PlainSeat) → slice_get old i ≡ Some s → s.job ≡ Some job
  pub seats : new ≡ change (λ s. record s { job = Some given }) i old
  pub plain : plain_job given
      ≡ record (plain_job job) { replies = (plain_job job).replies ++ e ∷ []; outcome = None }
  pub of_program : (program : PlainProgram) → IsOf program job → IsOf program given
  pub fresh : (base : Ground) (budget : ℕ) → StandsFor base budget job → IsFresh base budget given

-- what an event does to a b-thread
abbrev pub IsTouch : PlainEvent → Touched → Board → Board → Type 0
IsTouch e (to.Moves i) old new = IsGivenTo e i old.seats new.seats × IsStated i None old new
IsTouch e (to.Interrupts i) old new =
    (new.seats ≡ change (λ s. record s { ended = true }) i old.seats) × IsStated i None old new

-- those that are reached stand at their points
abbrev pub AreStanding : List Touched → List PlainSeat → Type 0
AreStanding [] ss = Unit {0}
AreStanding (x ∷ xs) ss = IsStanding (slice_get ss (number_in x)) × AreStanding xs ss

-- those that go on
abbrev pub moves_in : List Touched → List ℕ
moves_in xs = filter_map move_of xs

-- a board at rest, whose b-threads can be reached so
pub record CanTouch (r : Running) (xs : List Touched) (b : Board) : Type 0 where
  pub own : AreOwn r.program r.options 0 b.seats
  pub waiting : where_from is_waiting 0 b.seats ≡ []
  pub ready : where_from is_ready 0 b.seats ≡ []
  pub mirror : b.desk.bench.live ≡ stated_from 0 b.seats
  pub fits : Fits b.desk (ground_of r.program r.options.budget) r.options.budget
  pub few : length b.seats ≤ MOST_THREADS
  pub room : length b.desk.queue ≤ MOST_WAITING
  pub standing : AreStanding xs b.seats
  pub rises : Rises (map number_in xs)

-- all of them were reached
pub record IsTouchedBy (r : Running) (e : PlainEvent) (xs : List Touched) (old new : Board)
    : Type 0 where
  pub threads : map seated new.seats ≡ touch_all e xs (map seated old.seats)
  pub own : AreOwn r.program r.options 0 new.seats
  pub waiting : where_from is_waiting 0 new.seats ≡ moves_in xs
  pub ready : where_from is_ready 0 new.seats ≡ moves_in xs
  pub mirror : new.desk.bench.live ≡ stated_from 0 new.seats
  pub fits : Fits new.desk (ground_of r.program r.options.budget) r.options.budget
  pub few : length new.seats ≤ MOST_THREADS
  pub room : length new.desk.queue ≤ MOST_WAITING
  pub same : IsSameBut old new

-- where a run stands after the event, with what is to be run
abbrev pub moved_pair : Stand Origin → PlainEvent → Option ℕ → List Touched → ℕ → List (Entry Origin)
    → Pair Origin
moved_pair s e place xs weight ns =
    record {
      stand =
          record s {
            threads = touch_all e xs s.threads;
            queue = without s.queue place;
            transitions = s.transitions + 1;
            weight = weight;
            lines = s.lines ++ line_of_choice e place ∷ [];
          };
      entries = ns;
    }
