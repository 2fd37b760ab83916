-- What one step of a machine, and many, keep.
use Rattle.std.specs.Prelude.{◌⊎◌, ◌≡◌, ℕ, ◌+◌, ◌≤◌, List, [], ◌∷◌, ◌++◌, slice_get, pos, IfOk, Option, Some, None, Result}
use Rattle.std.specs.declared.alloc.AllocError.{AllocError}
use Rattle.js_ops.specs.declared.op_fault.OpFault.{OpFault}
use Rattle.js_ops.specs.declared.op_fault.OpFault.TheVariants as op_fault
use Rattle.js_meaning.specs.State as js
use Rattle.js_value.specs.Value as v
use Rattle.js_value.specs.Value.{PlainValue}
use Rattle.js_value.specs.Lists.{values_in}
use Rattle.js_meaning.specs.Variables.{padded}
use Rattle.js_frames.specs.declared.frame.Walk.{Walk}
use Rattle.js_value.specs.Views.{plain_value}
use Rattle.js_program.specs.PlainProgram as p
use Rattle.js_program.specs.PlainProgram.{PlainNodeForm, PlainNode, PlainContent, PlainProgram}
use Rattle.js_meaning.specs.State.{Setting, State, Outcome}
use Rattle.js_meaning.specs.Meaning.{does_node, eval, iterations_of}
use Rattle.js_frames.specs.declared.step.Completion.TheVariants.{Normal}
use Rattle.js_frames.specs.declared.step.Step.{Step}
use Rattle.js_frames.specs.declared.step.Step.TheVariants.{Begin, Give, Fail}
use Rattle.js_frames.specs.declared.frame.Frame.{Frame}
use Rattle.js_frames.specs.declared.frame.Frame.TheVariants.{Waiting, Called}
use Rattle.js_frames.specs.declared.frame.Part.TheVariants.{First, Or, And}
use Rattle.js_tree.specs.declared.tree.Operator.{Operator}
use Rattle.js_tree.specs.declared.tree.Operator.TheVariants as operator
use Rattle.js_frames.specs.declared.ground.Ground.{Ground}
use Rattle.js_frames.specs.declared.engine.Engine.{Engine}
use Rattle.js_frames.specs.Places.{Place, Beside, plain_ground, place_of, setting_at, state_at, held_at}
use Rattle.js_frames.specs.Frames.{resume, plug, step_outcome, future}
use Rattle.js_frames.specs.Fits.{StackFits, StepFits}

-- what completes without a node that begins leaves the stack as it was
abbrev pub Rests : Step → List Frame → List Frame → Type 0
Rests (Give c) old new = new ≡ old
Rests step old new = Unit {0}

-- no more begins than the slice allows, whose end stays
pub record Within (old new : Place) : Type 0 where
  pub same_floor : new.floor ≡ old.floor
  pub less : new.fuel ≤ old.fuel
  pub above : old.floor ≤ old.fuel → old.floor ≤ new.fuel

-- From old, the code that does this goes on to new, with this step to come.
pub record Leads (base : js.Ground) (old : Place) (o : State → Outcome) (new : Place) (step : Step)
    : Type 0 where
  pub same : (beside : Beside) →
      future base new step beside ≡ plug (setting_at base old) old.stack (o (state_at old beside))
  pub same_mode : new.mode ≡ old.mode
  pub same_budget : new.budget ≡ old.budget
  pub within : Within old new
  pub stack_fits : StackFits base.program new.stack
  pub step_fits : StepFits base.program step
  pub rests : Rests step old.stack new.stack

-- unless memory ran out
abbrev pub Goes : Ground → Engine → (State → Outcome) → Engine → Result Step AllocError → Type 0
Goes base old o new r = IfOk r (λ step. Leads (plain_ground base) (place_of old) o (place_of new) step)

-- the machine with one more frame
abbrev pub pushed : Place → Frame → Place
pushed m frame = record m { stack = m.stack ++ frame ∷ [] }

-- What the machine comes to is the same after as before.
pub record Keeps (base : js.Ground) (old : Place) (before : Step) (new : Place) (after : Step)
    : Type 0 where
  pub same : (beside : Beside) → future base new after beside ≡ future base old before beside
  pub same_mode : new.mode ≡ old.mode
  pub same_budget : new.budget ≡ old.budget
  pub within : Within old new
  pub stack_fits : StackFits base.program new.stack
  pub step_fits : StepFits base.program after

-- only the whole is complete
abbrev pub IsSettled : Step → List Frame → Type 0
IsSettled (Give c) stack = stack ≡ []
IsSettled step stack = Unit {0}

-- The same, where this many nodes began.
pub record Ran (base : js.Ground) (old : Place) (before : Step) (new : Place) (after : Step) (begun : ℕ)
    : Type 0 where
  pub same : (beside : Beside) → future base new after beside ≡ future base old before beside
  pub same_mode : new.mode ≡ old.mode
  pub same_budget : new.budget ≡ old.budget
  pub fuel : new.fuel + begun ≡ old.fuel
  pub stack_fits : StackFits base.program new.stack
  pub step_fits : StepFits base.program after

-- a node that must begin waits for fuel, or for the next slice
abbrev pub IsHeld : Step → ℕ → ℕ → ℕ → Type 0
IsHeld (Begin n) fuel begun nodes = (fuel ≡ 0) ⊎ (begun ≡ nodes)
IsHeld step fuel begun nodes = Unit {0}

-- at most this many nodes began
pub record Advanced (base : js.Ground) (old : Place) (before : Step) (new : Place) (after : Step)
    (nodes begun : ℕ) : Type 0 where
  pub few : begun ≤ nodes
  pub ran : Ran base old before new after begun
  pub settled : IsSettled after new.stack
  pub held : IsHeld after new.fuel begun nodes

-- the step does this, and no node begins by it
pub record Becomes (o : Setting → State → Outcome) (step : Step) : Type 0 where
  pub same : (g : Setting) (s : State) → step_outcome g step s ≡ o g s
  pub fits : (program : PlainProgram) → StepFits program step

-- the step does this, and the node that may begin by it is one of the program
pub record Picks (program : PlainProgram) (o : Setting → State → Outcome) (step : Step) : Type 0 where
  pub same : (g : Setting) (s : State) → step_outcome g step s ≡ o g s
  pub fits : StepFits program step

-- a value is given
abbrev pub Gives : PlainValue → Step → Type 0
Gives x (Give (Normal y)) = plain_value y ≡ x
Gives x step = ⊥

-- the machine in one more call with these slots, while this many are active
abbrev pub entered : Place → List (Option PlainValue) → ℕ → Place
entered m slots active =
    record m { stack = m.stack ++ Called m.slots m.calls ∷ []; slots = slots; calls = active }

-- the node that a body begins with, if it has one
abbrev pub first_of : PlainContent → Option ℕ
first_of (p.statements ns) = slice_get ns 0
first_of (p.one_value n) = Some n

-- what a node does that has begun
abbrev pub node_does : Setting → ℕ → State → Outcome
node_does g n s = does_node g (eval g) (iterations_of g) (slice_get g.base.program.nodes n) s

-- the value that a node of this form only gives, where the machine stands
abbrev pub leaf_at : js.Ground → Place → PlainNodeForm → Option PlainValue
leaf_at base m (p.number n) = Some (v.whole n)
leaf_at base m (p.read variable) = held_at base variable m
leaf_at base m _ = None

abbrev pub leaf_of : js.Ground → Place → Option PlainNode → Option PlainValue
leaf_of base m None = None
leaf_of base m (Some node) = leaf_at base m node.form

-- what a part does, and then the frame that waits for it
abbrev pub waits_for : Setting → Frame → ℕ → State → Outcome
waits_for g frame part s = resume g frame (eval g part s)

-- what waits for the left side of an operator
abbrev pub operand_frame : Operator → ℕ → ℕ → Frame
operand_frame operator.Or right n = Waiting (Or right)
operand_frame operator.And right n = Waiting (And right)
operand_frame _ right n = Waiting (First n)

abbrev pub IsBegin : Step → Type 0
IsBegin (Begin n) = Unit {0}
IsBegin step = ⊥

-- the arguments for the element of a walk: those that a function with this many parameters takes
abbrev pub AreElementArgs : Walk → ℕ → List PlainValue → Type 0
AreElementArgs w wanted args =
    (x : PlainValue) × (slice_get (values_in w.items) w.index ≡ Some x)
    × (padded wanted args ≡ padded wanted (x ∷ v.whole (pos w.index) ∷ v.list w.items ∷ []))

-- a fault of an operator is one of the line, unless memory ran out
abbrev pub FailsAs : OpFault → ℕ → Result Step AllocError → Type 0
FailsAs (op_fault.Fault f) line r = IfOk r (λ step. step ≡ Fail f line)
FailsAs op_fault.Memory line r = IfOk r (λ step. ⊥)
