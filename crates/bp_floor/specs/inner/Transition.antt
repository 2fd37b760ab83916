-- An event is selected on a board at rest.
use Rattle.std.specs.Prelude.{◌≡◌, ℕ, ◌≤◌, nat_lt, List, Option, Some, None, Ok, false, if◌then◌else◌}
use Rattle.js_data.specs.Event.{PlainEvent}
use Rattle.js_meaning.specs.State.{Ground}
use Rattle.bp_log.specs.Options.{PlainOptions}
use Rattle.bp_log.specs.declared.limits.TheConstants.{MOST_WEIGHT}
use Rattle.bp_run.specs.Choosing.{Touched, reach}
use Rattle.bp_run.specs.Choosing.Touched.{Moves, Interrupts}
use Rattle.bp_run.specs.Story.{weight_after}
use Rattle.bp_select.specs.declared.answers.Reach.{Reach}
use Rattle.bp_select.specs.Answers.{IsReach}
use Rattle.bp_floor.specs.declared.board.Board.{Board}
use Rattle.bp_floor.specs.declared.phase.Phase.{Phase}
use Rattle.bp_floor.specs.declared.phase.Phase.TheVariants.{Rest}
use Rattle.bp_floor.specs.declared.going.Outlook.{Outlook}
use Rattle.bp_floor.specs.declared.going.Outlook.TheVariants.{Reaches, Stops}
use Rattle.bp_floor.specs.inner.Boards.{pair_of}
use Rattle.bp_floor.specs.Floors.{PlainFloor, IsSound, phase_of, stop_of, has_on, live_on}

-- the board keeps all that its floor does, in this phase
abbrev pub IsSoundOn : Ground → PlainOptions → Board → Phase → Type 0
IsSoundOn base o b phase = IsSound (record { program = base.program; options = o }) base b phase

abbrev pub IsResting : Ground → PlainOptions → Board → Type 0
IsResting base o b = IsSoundOn base o b Rest

-- a board as a floor whose jobs are not lent
abbrev pub floor_on : Ground → PlainOptions → Board → PlainFloor
floor_on base o b =
    record { base = base; options = o; pair = pair_of b; phase = phase_of (pair_of b); broken = false }

-- whom an event reaches, and what the run weighs afterwards
pub record IsReached (f : PlainFloor) (e : PlainEvent) (r : Reach) (weight : ℕ) : Type 0 where
  pub reached : List Touched
  pub reach_is : reach (has_on f) e (live_on f) ≡ Ok reached
  pub split : IsReach reached r
  pub weight_is : weight ≡ weight_after f.pair.stand e reached
  pub light : weight ≤ MOST_WEIGHT

-- it reaches these, or it stops the run
abbrev pub LooksAs : PlainFloor → PlainEvent → Outlook → Type 0
LooksAs f e (Reaches r weight) = IsReached f e r weight
LooksAs f e (Stops v) = stop_of f e ≡ Some v

-- the first of the next that goes on and the next that is interrupted
abbrev pub first_touch : Option ℕ → Option ℕ → Option Touched
first_touch None None = None
first_touch (Some m) None = Some (Moves m)
first_touch None (Some i) = Some (Interrupts i)
first_touch (Some m) (Some i) = if nat_lt m i then Some (Moves m) else Some (Interrupts i)
