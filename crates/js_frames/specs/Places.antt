-- A machine between two steps, as plain data.
use Rattle.std.specs.Prelude.{ℕ, List, [], ◌++◌, map, slice_set, option_map, unwrap_or, Option, Some}
use Rattle.js_tree.specs.declared.tree.DeclareKind.{DeclareKind}
use Rattle.js_tree.specs.declared.tree.DeclareKind.TheVariants.{Var}
use Rattle.js_program.specs.declared.node.Variable.{Variable}
use Rattle.js_program.specs.declared.node.Variable.TheVariants.{Slot, Constant}
use Rattle.js_data.specs.Event.{PlainEvent}
use Rattle.js_value.specs.Value.{PlainValue, undefined}
use Rattle.js_value.specs.Views.{plain_value}
use Rattle.js_program.specs.declared.builtin.Mode.{Mode}
use Rattle.js_meaning.specs.State as js
use Rattle.js_meaning.specs.Variables.{in_slot}
use Rattle.js_meaning.specs.State.{State, Setting}
use Rattle.js_frames.specs.declared.effect.Effect.{Effect}
use Rattle.js_frames.specs.declared.effect.Effect.TheVariants.{Line, Enqueue, Register, Handler}
use Rattle.js_frames.specs.declared.effect.Effects.{Effects}
use Rattle.js_frames.specs.declared.frame.Frame.{Frame}
use Rattle.js_frames.specs.declared.ground.Ground.{Ground}
use Rattle.js_frames.specs.declared.engine.Engine.{Engine}

abbrev pub plain_ground : Ground → js.Ground
plain_ground g = record { program = g.program; constants = g.constants }

abbrev pub plain_effect : Effect → js.Effect
plain_effect (Line text) = js.says text
plain_effect (Enqueue event) = js.enqueues event
plain_effect (Register name f) = js.registers name (plain_value f)
plain_effect (Handler f) = js.handles (plain_value f)

abbrev pub plain_effects : Effects → List js.Effect
plain_effects e = map plain_effect e.items.items

pub record Place : Type 0 where
  pub stack : List Frame
  pub slots : List (Option PlainValue)
  pub constants : Option (List (Option PlainValue))
  pub calls : ℕ
  pub mode : Mode
  pub fuel : ℕ
  -- what is left of it at the end of the slice
  pub floor : ℕ
  pub budget : ℕ
  pub effects : List js.Effect

abbrev pub place_of : Engine → Place
place_of m = record {
  stack = m.stack.items;
  slots = m.slots;
  constants = m.constants;
  calls = m.calls;
  mode = m.mode;
  fuel = m.fuel;
  floor = m.floor;
  budget = m.budget;
  effects = plain_effects m.effects;
}

abbrev pub setting_at : js.Ground → Place → Setting
setting_at base m = record { base = base; mode = m.mode; budget = m.budget }

-- What a machine does not keep: the effects that were taken from it, how many effects came before
-- the last reply, and the replies that are still to come.
pub record Beside : Type 0 where
  pub taken : List js.Effect
  pub delivered : ℕ
  pub replies : List PlainEvent

abbrev pub state_at : Place → Beside → State
state_at m b = record {
  slots = m.slots;
  constants = m.constants;
  calls = m.calls;
  fuel = m.fuel;
  replies = b.replies;
  effects = b.taken ++ m.effects;
  delivered = b.delivered;
}

-- before anything has begun
abbrev pub fresh : Mode → ℕ → Option (List (Option PlainValue)) → Place
fresh mode budget constants =
    record {
      stack = [];
      slots = [];
      constants = constants;
      calls = 0;
      mode = mode;
      fuel = budget;
      floor = budget;
      budget = budget;
      effects = [];
    }

abbrev pub here : Ground → Engine → Setting
here base m = setting_at (plain_ground base) (place_of m)

-- a declared variable has its value
abbrev pub put_at : Variable → PlainValue → Place → Place
put_at (Slot k) x m = record m { slots = slice_set m.slots k (Some x) }
put_at (Constant k) x m =
    record m { constants = option_map (λ cs. slice_set cs k (Some x)) m.constants }

-- a declared variable without a value
abbrev pub undefined_at : DeclareKind → Variable → Place → Place
undefined_at Var variable m = m
undefined_at _ variable m = put_at variable undefined m

-- the value of a variable, if it is declared
abbrev pub held_at : js.Ground → Variable → Place → Option PlainValue
held_at base (Slot k) m = in_slot k m.slots
held_at base (Constant k) m = in_slot k (unwrap_or m.constants base.constants)
