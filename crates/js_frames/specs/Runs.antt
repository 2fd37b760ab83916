-- What a machine stands for.
use Rattle.std.specs.Prelude.{◌≡◌, ℕ, zero, suc, ◌+◌, ◌<◌, ◌≤◌, List, [], ◌++◌, Option, Some, None, unwrap_or}
use Rattle.js_data.specs.Event.{PlainEvent}
use Rattle.js_value.specs.Value.{PlainValue}
use Rattle.js_value.specs.Views.{plain_value}
use Rattle.js_program.specs.PlainProgram.{PlainProgram}
use Rattle.js_meaning.specs.State.{Ground, Effect, State, Left, left_by, Outcome, normal, went, broken, violated, spent, stopped}
use Rattle.js_meaning.specs.Bodies.{Origin, mode_of, evaluation}
use Rattle.js_frames.specs.declared.step.Completion.TheVariants.{Normal}
use Rattle.js_frames.specs.declared.step.Step.{Step}
use Rattle.js_frames.specs.declared.step.Step.TheVariants.{Begin, Give, Ask, Fail, Violate}
use Rattle.js_frames.specs.declared.machine.Pause.{Pause}
use Rattle.js_frames.specs.declared.machine.Pause.TheVariants as pause
use Rattle.js_frames.specs.declared.machine.Machine.{Machine}
use Rattle.js_frames.specs.Places.{plain_effects, place_of}
use Rattle.js_frames.specs.Frames.{future}
use Rattle.js_frames.specs.Fits.{StackFits, StepFits}

-- a machine of the program: its stack and the step to come are, if one is to come
unfoldable pub IsOfProgram : PlainProgram → Machine → Type 0
IsOfProgram program m =
    (next : Step) → m.pending ≡ Some next →
    StackFits program m.engine.stack.items × StepFits program next

-- no step is to come: it has been given nothing to do yet, or memory ran out
unfoldable pub IsLost : Machine → Type 0
IsLost m = m.pending ≡ None

-- whatever replies come later, the machine comes to the outcome of the body with all the replies
pub record Coming (base : Ground) (budget : ℕ) (o : Origin) (replies : List PlainEvent) (begun : ℕ)
    (taken : List Effect) (m : Machine) : Type 0 where
  pub next : Step
  pub is_next : m.pending ≡ Some next
  -- how many effects came before the last reply
  pub delivered : ℕ
  pub comes : (later : List PlainEvent) →
      future base (place_of m.engine) next
      (record { taken = taken; delivered = delivered; replies = later })
      ≡ evaluation base budget o (replies ++ later)
  pub budget_is : m.engine.budget ≡ budget
  pub mode_is : m.engine.mode ≡ mode_of o
  pub fuel : m.engine.fuel + begun ≡ budget

-- The machine stands for this body, with these replies, where this many nodes have begun since the
-- last of them, and these effects were taken.
unfoldable pub Stands : Ground → ℕ → Origin → List PlainEvent → ℕ → List Effect → Machine → Type 0
Stands base budget o replies begun taken m = Coming base budget o replies begun taken m

-- the effects since the last taking
unfoldable pub untaken : Machine → List Effect
untaken m = plain_effects m.engine.effects

abbrev pub asked_at : Option Step → Option (PlainValue × PlainValue)
asked_at (Some (Ask s p line)) = Some (plain_value s, plain_value p)
asked_at _ = None

-- the statement and the priority that `bp.sync` asks
unfoldable pub asked_by : Machine → Option (PlainValue × PlainValue)
asked_by m = asked_at m.pending

abbrev pub line_at : Option Step → Option ℕ
line_at (Some (Ask s p line)) = Some line
line_at _ = None

-- the line of the `bp.sync` that asks
unfoldable pub line_asked : Machine → Option ℕ
line_asked m = line_at m.pending

abbrev pub answer_at : Option Step → Option PlainValue
answer_at (Some (Give (Normal x))) = Some (plain_value x)
answer_at _ = None

-- the value with which the step to come goes on: where the body is at its end, what it answers
unfoldable pub answer_by : Machine → Option PlainValue
answer_by m = answer_at m.pending

-- the constants so far, at the top level
unfoldable pub constants_by : Machine → List (Option PlainValue)
constants_by m = unwrap_or m.engine.constants []

-- As many nodes began as the slice allows, there is budget, and another must begin: the body leaves
-- less of the budget than is left now.
pub record Waits (o : Outcome) (begun more nodes budget : ℕ) : Type 0 where
  pub whole : more ≡ nodes
  pub some_left : begun + more < budget
  pub another : (left_by o).fuel + (begun + more) < budget

-- where the body stops, no other must begin: it leaves what is left of the budget
abbrev pub IsReached : Pause → Outcome → ℕ → ℕ → Type 0
IsReached pause.More o begun budget = Unit {0}
IsReached pause o begun budget = (left_by o).fuel + begun ≡ budget

-- `bp.sync` asks
pub record Asks (o : Outcome) (effects : List Effect) (m : Machine) : Type 0 where
  pub statement : PlainValue
  pub priority : PlainValue
  pub line : ℕ
  pub left : Left
  pub is : o ≡ stopped statement priority line left
  pub asked : asked_by m ≡ Some (statement, priority)
  pub at_line : line_asked m ≡ Some line
  pub made : left.effects ≡ effects

-- the body came to its end
pub record Answers (o : Outcome) (effects : List Effect) (m : Machine) : Type 0 where
  pub answer : PlainValue
  pub state : State
  pub is : o ≡ went (normal answer) state
  pub answered : answer_by m ≡ Some answer
  pub constants : constants_by m ≡ unwrap_or state.constants []
  pub made : state.effects ≡ effects

-- the budget's nodes have begun
pub record Spends (o : Outcome) (effects : List Effect) (begun more budget : ℕ) : Type 0 where
  pub left : Left
  pub is : o ≡ spent left
  pub made : left.effects ≡ effects
  pub all : begun + more ≡ budget

-- A pause says what the outcome of the body is with the replies so far, and where the machine's
-- answer to it is.
abbrev pub Says : Pause → Outcome → ℕ → ℕ → ℕ → ℕ → List Effect → Machine → Type 0
Says pause.More o begun more nodes budget effects m = Waits o begun more nodes budget
Says pause.AtSync o begun more nodes budget effects m = Asks o effects m
Says pause.Ended o begun more nodes budget effects m = Answers o effects m
Says (pause.Broken fault line) o begun more nodes budget effects m =
    (left : Left) × (o ≡ broken fault line left) × (left.effects ≡ effects)
Says (pause.Violated text) o begun more nodes budget effects m =
    (left : Left) × (o ≡ violated text left) × (left.effects ≡ effects)
Says pause.Spent o begun more nodes budget effects m = Spends o effects begun more budget

-- what a run of a machine does that stands for this body
pub record Runs (base : Ground) (budget : ℕ) (o : Origin) (replies : List PlainEvent) (begun : ℕ)
    (taken : List Effect) (nodes : ℕ) (pause : Pause) (m : Machine) : Type 0 where
  pub more : ℕ
  pub few : more ≤ nodes
  pub stands : Stands base budget o replies (begun + more) taken m
  pub says :
      Says pause (evaluation base budget o replies) begun more nodes budget (taken ++ untaken m) m
  pub reached : IsReached pause (evaluation base budget o replies) (begun + more) budget

abbrev pub if_zero : ℕ → Pause → Pause → Pause
if_zero zero a b = a
if_zero (suc n) a b = b

-- why a machine stops with this much fuel before a step
abbrev pub pause_of : ℕ → Step → Pause
pause_of fuel (Begin n) = if_zero fuel pause.Spent pause.More
pause_of fuel (Give c) = pause.Ended
pause_of fuel (Ask s p line) = pause.AtSync
pause_of fuel (Fail fault line) = pause.Broken fault line
pause_of fuel (Violate text) = pause.Violated text
