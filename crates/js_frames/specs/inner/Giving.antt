-- A part that gives a value at once, without a frame.
use Rattle.std.specs.Prelude.{◌≡◌, ℕ, ◌≤◌, ◌<◌, Bool, false, not, Option, Some, None, Ok}
use Rattle.js_tree.specs.declared.tree.Operator.{Operator}
use Rattle.js_tree.specs.declared.tree.Operator.TheVariants as operator
use Rattle.js_value.specs.Value.{PlainValue, is_truthy}
use Rattle.js_value.specs.declared.op.Op.{Op}
use Rattle.js_ops.specs.Made.{Answer}
use Rattle.js_ops.specs.Operators.{value_of}
use Rattle.js_meaning.specs.State as js
use Rattle.js_meaning.specs.State.{gives}
use Rattle.js_meaning.specs.Meaning.{eval}
use Rattle.js_frames.specs.Places.{Place, Beside, setting_at, state_at}

-- the machine with this fuel
abbrev pub with_fuel : Place → ℕ → Place
with_fuel m fuel = record m { fuel = fuel }

-- The part and all of its parts began, within the slice, and it gave this value; nothing but the fuel
-- is another. It is less by as many as began: `same` says so.
pub record Gave (base : js.Ground) (old : Place) (part : ℕ) (x : PlainValue) (new : Place)
    : Type 0 where
  pub same : (beside : Beside) →
      eval (setting_at base old) part (state_at old beside) ≡ gives x (state_at new beside)
  pub place : new ≡ record old { fuel = new.fuel }
  pub less : new.fuel < old.fuel
  pub room : old.floor ≤ new.fuel

-- whether an operator has the value of its left side, and skips the right one
abbrev pub skips : Operator → PlainValue → Bool
skips operator.Or x = is_truthy x
skips operator.And x = not (is_truthy x)
skips _ x = false

-- the value of two by an operator; where there is none, the second
abbrev pub value_by : Option Op → PlainValue → PlainValue → Answer
value_by None x y = Ok y
value_by (Some op) x y = value_of op x y
