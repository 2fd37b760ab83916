-- What contracts see of a floor, and what it stands for.
use Rattle.std.specs.Prelude.{◌≡◌, ℕ, ◌≤◌, nat_lt, Bool, true, false, List, [], ◌∷◌, Option, Some, None, Ok, Err, length, map, slice_get, if◌then◌else◌}
use Rattle.std.specs.List.{list_any}
use Rattle.js_data.specs.Event.{PlainEvent, same_event}
use Rattle.js_value.specs.Value.{PlainSet}
use Rattle.js_meaning.specs.State.{Ground}
use Rattle.js_meaning.specs.Bodies.{Origin, the_top, ground_of}
use Rattle.bp_log.specs.Options.{PlainOptions}
use Rattle.bp_log.specs.declared.limits.TheConstants.{MOST_WAITING, MOST_THREADS, MOST_WEIGHT}
use Rattle.bp_log.specs.declared.trace.Line.{Line}
use Rattle.bp_log.specs.declared.verdict.Verdict.{Verdict}
use Rattle.bp_log.specs.declared.verdict.Verdict.TheVariants as verdict
use Rattle.bp_sets.specs.declared.fault.SetFault as set
use Rattle.bp_sets.specs.declared.fault.SetFault.TheVariants as set_fault
use Rattle.bp_run.specs.Bodies.{Code, SetFault}
use Rattle.bp_run.specs.Configuration.{Stand, name_in, not_ended}
use Rattle.bp_run.specs.Settling.{Entry, Pair, turn, before}
use Rattle.bp_run.specs.Selecting.{Asked, Enabled, Has, Live, live, selectable}
use Rattle.bp_run.specs.Choosing.{Touched, reach}
use Rattle.bp_run.specs.Numbers.{number_of}
use Rattle.bp_run.specs.Story.{stepped, weight_after, fault_verdict}
use Rattle.bp_thread.specs.declared.job.Job.{Job}
use Rattle.bp_floor.specs.declared.board.Board.{Board}
use Rattle.bp_floor.specs.declared.phase.Phase.{Phase}
use Rattle.bp_floor.specs.declared.phase.Phase.TheVariants.{Ready, Lent, Rest, Over}
use Rattle.bp_floor.specs.declared.went.Went.{Went}
use Rattle.bp_floor.specs.declared.went.Went.TheVariants.{Moved, Stopped}
use Rattle.bp_code.specs.Code.{sealed_code_of as code_of}
use Rattle.bp_floor.specs.inner.Desks.{Fits}
use Rattle.bp_floor.specs.inner.Seats.{is_waiting, is_ready, where_from, stated_from, AreOwn}
use Rattle.bp_floor.specs.inner.Boards.{pair_of}
use Rattle.bp_floor.specs.Forgetting.{forget, forgotten, AreGoing}
use Rattle.bp_floor.specs.inner.Kept.{Running, AreBelow, Rises, runs_in}
use Rattle.bp_floor.specs.Loans.{AreDone, filled_pair, standing}
use Rattle.bp_floor.specs.Returns.{RunsAlone, ground_at}

-- A floor: its ground, its options, and where its b-threads stand, with the lines that were not taken
-- yet. Those that have ended, and those whose jobs are lent, show no body.
pub record PlainFloor : Type 0 where
  pub base : Ground
  pub options : PlainOptions
  pub pair : Pair Origin
  pub phase : Phase
  pub broken : Bool

-- the code that runs on it
abbrev pub code_on : PlainFloor → Code Origin PlainSet
code_on f = code_of f.base.program f.options

-- what its sets have
abbrev pub has_on : PlainFloor → Has PlainSet
has_on f = (code_on f).has

-- what its live b-threads state
abbrev pub live_on : PlainFloor → List (Live PlainSet)
live_on f = live (code_on f) f.pair.stand

-- A floor from which these lines were taken stands for a pair: with the bodies of those that have ended
-- forgotten, the pair is the floor's own after the lines.
abbrev pub StandsFor : PlainFloor → List Line → Pair Origin → Type 0
StandsFor f taken p = forgotten the_top p ≡ before taken f.pair

-- At `Lent` it does so together with the lent jobs, which hold the bodies and the replies of their b-threads.
abbrev pub StandsWith : PlainFloor → List Job → List Line → Pair Origin → Type 0
StandsWith f jobs taken p = forgotten the_top p ≡ before taken (filled_pair jobs f.pair)

-- The jobs are the lent ones, each carried to its outcome with its effects whole.
abbrev pub AreBack : PlainFloor → List Job → Type 0
AreBack f jobs =
    AreDone f.base.program f.options (standing (filled_pair jobs f.pair).stand.threads)
    f.pair.entries jobs

abbrev pub phase_at : Option Verdict → List (Entry Origin) → Phase
phase_at (Some v) ns = Over
phase_at None [] = Rest
phase_at None (n ∷ ns) = Ready

-- the phase that a pair asks for
abbrev pub phase_of : Pair Origin → Phase
phase_of p = phase_at p.stand.verdict p.entries

abbrev pub not_lent : Phase → Phase
not_lent Ready = Ready
not_lent Lent = Ready
not_lent Rest = Rest
not_lent Over = Over

-- those whose jobs are there to be run
abbrev pub ready_in : Phase → List (Entry Origin) → List ℕ
ready_in Lent ns = []
ready_in Ready ns = runs_in ns
ready_in Rest ns = runs_in ns
ready_in Over ns = runs_in ns

-- what a floor keeps while memory never ran out
pub record IsSound (r : Running) (base : Ground) (b : Board) (phase : Phase) : Type 0 where
  pub own : AreOwn r.program r.options 0 b.seats
  pub waiting : where_from is_waiting 0 b.seats ≡ runs_in b.wave
  pub ready : where_from is_ready 0 b.seats ≡ ready_in phase b.wave
  pub mirror : b.desk.bench.live ≡ stated_from 0 b.seats
  pub fits : Fits b.desk (ground_of r.program r.options.budget) r.options.budget
  pub few : length b.seats ≤ MOST_THREADS
  pub room : length b.desk.queue ≤ MOST_WAITING
  pub alone : RunsAlone b.wave
  pub below : AreBelow (length b.seats) b.wave
  pub rises : Rises (map number_of b.wave)
  pub program_is : base.program ≡ r.program
  pub ground_is : base ≡ ground_at r.program r.options.budget b.wave
  pub at_phase : not_lent phase ≡ phase_of (pair_of b)
  pub light : b.weight ≤ MOST_WEIGHT
  pub counted : b.transitions ≤ b.weight

-- nobody is to be run
abbrev pub is_idle : Phase → Bool
is_idle Ready = false
is_idle Lent = false
is_idle Rest = true
is_idle Over = true

-- what its pair keeps while memory never ran out
pub record IsPhased (f : PlainFloor) : Type 0 where
  pub at_phase : not_lent f.phase ≡ phase_of f.pair
  pub grounded : f.base ≡ ground_at f.base.program f.options.budget f.pair.entries
  pub alone : RunsAlone f.pair.entries
  pub going : AreGoing f.pair.stand.threads f.pair.entries
  pub few : length f.pair.stand.threads ≤ MOST_THREADS
  pub room : length f.pair.stand.queue ≤ MOST_WAITING
  pub light : f.pair.stand.weight ≤ MOST_WEIGHT
  pub counted : f.pair.stand.transitions ≤ f.pair.stand.weight

-- after a turn of the pair that it has with its jobs
pub record IsSealed (f : PlainFloor) (jobs : List Job) (g : PlainFloor) : Type 0 where
  pub pair_is : g.pair ≡ forgotten the_top (turn (code_on f) (filled_pair jobs f.pair))
  pub phase_is : g.phase ≡ phase_of g.pair

-- memory did not run out before, and is not now
pub record HadMemory (old new : PlainFloor) : Type 0 where
  pub before : old.broken ≡ false
  pub after : new.broken ≡ false

-- what stays after memory ran out
pub record IsGivenUp (old new : PlainFloor) : Type 0 where
  pub broken : new.broken ≡ true
  pub phase : new.phase ≡ old.phase
  pub lines : new.pair.stand.lines ≡ old.pair.stand.lines
  pub verdict : new.pair.stand.verdict ≡ old.pair.stand.verdict

-- the event is among the selectable candidates, or stands at this first selectable place of the queue
abbrev pub IsAmong : Enabled → List PlainEvent → PlainEvent → Option ℕ → Type 0
IsAmong x queue e None = list_any (same_event e) x.inner ≡ true
IsAmong x queue e (Some i) = (x.outer ≡ Some i) × (slice_get queue i ≡ Some e)

-- the event can be selected there
pub record CanGo (f : PlainFloor) (e : PlainEvent) (place : Option ℕ) : Type 0 where
  pub enabled : Enabled
  pub is_enabled : selectable (has_on f) (live_on f) f.pair.stand.queue ≡ Ok enabled
  pub among : IsAmong enabled f.pair.stand.queue e place

-- the verdict with which an event stops the run, where its reach is at fault or the run would weigh too much
abbrev pub stop_at_reach : Stand Origin → PlainEvent → Asked (List Touched) → Option Verdict
stop_at_reach s e (Err x) = Some (fault_verdict s x)
stop_at_reach s e (Ok xs) =
    if nat_lt MOST_WEIGHT (weight_after s e xs) then Some verdict.Weight else None

-- the verdict of a fault of a set, in the name of the b-thread of this number; out of memory is no
-- fault of a set
abbrev pub told_verdict : Stand Origin → ℕ → set.SetFault → Option Verdict
told_verdict s n (set_fault.Broken f line) = Some (fault_verdict s (n, SetFault.Broken f line))
told_verdict s n set_fault.Spent = Some (fault_verdict s (n, SetFault.Spent))
told_verdict s n (set_fault.NotTruth line) = Some (fault_verdict s (n, SetFault.NotTruth line))
told_verdict s n set_fault.Memory = None

abbrev pub stop_of : PlainFloor → PlainEvent → Option Verdict
stop_of f e = stop_at_reach f.pair.stand e (reach (has_on f) e (live_on f))

-- the floor after the event
pub record IsMoved (f : PlainFloor) (e : PlainEvent) (place : Option ℕ) (g : PlainFloor) : Type 0 where
  pub reached : List Touched
  pub reach_is : reach (has_on f) e (live_on f) ≡ Ok reached
  pub stop_is : stop_of f e ≡ None
  pub pair_is : g.pair ≡ forgotten the_top (stepped (code_on f) f.pair.stand e place reached)
  pub phase_is : g.phase ≡ phase_of g.pair

-- it went on, or it was stopped and nothing has changed
abbrev pub GoesAs : PlainFloor → PlainEvent → Option ℕ → Went → PlainFloor → Type 0
GoesAs f e place Moved g = IsMoved f e place g
GoesAs f e place (Stopped v) g = (stop_of f e ≡ Some v) × (g ≡ f)

-- What a pair shows on a floor that stands for it: all but the bodies and the replies of those that
-- have ended, and the lines that were taken.
pub record ShowsOf (f : PlainFloor) (p : Pair Origin) : Type 0 where
  pub stops : (e : PlainEvent)
      → stop_of f e ≡ stop_at_reach p.stand e (reach (has_on f) e (live (code_on f) p.stand))
  pub live : live_on f ≡ live (code_on f) p.stand
  pub threads : f.pair.stand.threads ≡ map (forget the_top) p.stand.threads
  pub names : (i : ℕ)
      → name_in (slice_get f.pair.stand.threads i) ≡ name_in (slice_get p.stand.threads i)
  pub going : not_ended f.pair.stand ≡ not_ended p.stand
  pub queue : f.pair.stand.queue ≡ p.stand.queue
  pub transitions : f.pair.stand.transitions ≡ p.stand.transitions
  pub weight : f.pair.stand.weight ≡ p.stand.weight
  pub verdict : f.pair.stand.verdict ≡ p.stand.verdict
  pub entries : f.pair.entries ≡ p.entries

-- A floor that stood for this pair goes on: it stands for the transition, or the event stops the run
-- and it stands for what it stood for.
abbrev pub GoesFrom : Code Origin PlainSet → List Line → Pair Origin → PlainEvent → Option ℕ → Went
    → PlainFloor → Type 0
GoesFrom l taken p e place Moved g =
    (reached : List Touched) × (reach l.has e (live l p.stand) ≡ Ok reached)
    × StandsFor g taken (stepped l p.stand e place reached)
GoesFrom l taken p e place (Stopped v) g =
    (stop_at_reach p.stand e (reach l.has e (live l p.stand)) ≡ Some v) × StandsFor g taken p
