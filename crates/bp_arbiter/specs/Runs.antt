-- A run, and what comes next in it.
use Rattle.std.specs.Prelude.{◌≡◌, ℕ, ◌≤◌, ◌<◌, vec_len, vec_capacity, Bool, false, List, [], ◌∷◌, ◌++◌, Option, Some, None, Ok}
use Rattle.js_data.specs.Event.{PlainEvent}
use Rattle.js_meaning.specs.Bodies.{Origin, the_top}
use Rattle.bp_log.specs.declared.record.Record.TheVariants.{Sel, End}
use Rattle.bp_log.specs.declared.trace.Line.{Line}
use Rattle.bp_log.specs.declared.verdict.Verdict.{Verdict}
use Rattle.bp_run.specs.Configuration.{Configuration}
use Rattle.bp_run.specs.Selecting.{live}
use Rattle.bp_run.specs.Choosing.{Choice, Touched, reach}
use Rattle.bp_run.specs.Story.{Next, over, stepped, next, next_choice, next_idle}
use Rattle.bp_run.specs.Story.Next.{Ends, Selects, Waits}
use Rattle.bp_floor.specs.declared.phase.Phase.{Phase}
use Rattle.bp_floor.specs.declared.phase.Phase.TheVariants.{Over}
use Rattle.bp_floor.specs.Floors.{PlainFloor, code_on, phase_of}
use Rattle.bp_floor.specs.Forgetting.{forgotten}
use Rattle.bp_arbiter.specs.declared.run.Run.{Run}
use Rattle.bp_arbiter.specs.Arbiters.{PlainArbiter}

-- the arbiter of this run
abbrev pub seen : Run → Phase → Bool → PlainArbiter
seen r phase broken =
    record {
      floor = r.floor;
      drawn = r.draw.drawn;
      reading = r.reading;
      bad = r.bad;
      records = r.records.items;
      phase = phase;
      broken = broken;
    }

-- where it stands, by what its floor shows
abbrev pub configuration_of : Run → Configuration Origin
configuration_of r =
    record { stand = r.floor.pair.stand; drawn = r.draw.drawn; reading = r.reading; bad = r.bad }

-- one record more has its place already
abbrev pub HasPlace : Run → Type 0
HasPlace r = vec_len r.records < vec_capacity r.records

-- what comes next there
abbrev pub next_in : Run → Next
next_in r = next (code_on r.floor) r.floor.options (configuration_of r)

-- what comes next where this event is chosen, after its word
abbrev pub next_chosen_in : Run → PlainEvent → Option ℕ → Next
next_chosen_in r e place =
    next_choice (code_on r.floor) r.floor.options (configuration_of r)
    (Ok (Some (record { event = e; place = place; drawn = r.draw.drawn })))

-- what comes next where nothing can be chosen
abbrev pub next_idle_in : Run → Next
next_idle_in r = next_idle r.floor.options (configuration_of r) r.bad

-- the verdict, or waiting
abbrev pub ends_or_waits : Option Verdict → Next
ends_or_waits None = Waits
ends_or_waits (Some v) = Ends v

abbrev pub lines_in : Run → List Line
lines_in r = r.floor.pair.stand.lines

-- the injectors, the seed, the program and the options stay
pub record IsBeside (old new : Run) : Type 0 where
  pub reading : new.reading ≡ old.reading
  pub bad : new.bad ≡ old.bad
  pub seed : new.draw.seed ≡ old.draw.seed
  pub program : new.floor.base.program ≡ old.floor.base.program
  pub options : new.floor.options ≡ old.floor.options

-- out of memory: neither records nor lines have changed
pub record IsUnheard (old new : Run) : Type 0 where
  pub records : new.records.items ≡ old.records.items
  pub lines : lines_in new ≡ lines_in old

abbrev pub ended_floor : PlainFloor → Verdict → PlainFloor
ended_floor f v = record f { pair = record f.pair { stand = over f.pair.stand v }; phase = Over }

-- it ends: the verdict has its line and its record
pub record IsEnded (old : Run) (v : Verdict) (new : Run) : Type 0 where
  pub floor : new.floor ≡ ended_floor old.floor v
  pub records : new.records.items ≡ old.records.items ++ End v ∷ []
  pub drawn : old.draw.drawn ≤ new.draw.drawn

-- an event is selected
pub record IsMoved (old : Run) (ch : Choice) (reached : List Touched) (new : Run) : Type 0 where
  pub reach_is : reach (code_on old.floor).has ch.event (live (code_on old.floor) old.floor.pair.stand)
      ≡ Ok reached
  pub pair_is : new.floor.pair
      ≡ forgotten the_top (stepped (code_on old.floor) old.floor.pair.stand ch.event ch.place reached)
  pub phase_is : new.floor.phase ≡ phase_of new.floor.pair
  pub whole : new.floor.broken ≡ false
  pub records : new.records.items ≡ old.records.items ++ Sel ch.event ∷ []
  pub drawn : new.draw.drawn ≡ ch.drawn

-- nothing has changed
pub record IsStill (old new : Run) : Type 0 where
  pub floor : new.floor ≡ old.floor
  pub records : new.records.items ≡ old.records.items
  pub drawn : new.draw.drawn ≡ old.draw.drawn

-- what comes next has come
abbrev pub HasCome : Run → Next → Run → Type 0
HasCome old (Ends v) new = IsEnded old v new
HasCome old (Selects ch reached) new = IsMoved old ch reached new
HasCome old Waits new = IsStill old new
