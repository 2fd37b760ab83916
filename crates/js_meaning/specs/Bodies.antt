-- Whole bodies: the top level, and functions with their arguments.
use Rattle.std.specs.Prelude.{ℕ, List, [], map, unwrap_or, Option, Some, None}
use Rattle.js_data.specs.Event.{PlainEvent}
use Rattle.js_value.specs.Value.{PlainValue}
use Rattle.js_program.specs.declared.builtin.Mode.{Mode}
use Rattle.js_program.specs.declared.builtin.Mode.TheVariants.{Top}
use Rattle.js_program.specs.PlainProgram.{PlainProgram}
use Rattle.js_meaning.specs.State.{Ground, Setting, State, Outcome, went}
use Rattle.js_meaning.specs.Variables.{constant_start}
use Rattle.js_meaning.specs.Calls.{enters, calls}
use Rattle.js_meaning.specs.Meaning.{eval}

-- a body that can be run: the top level, or a function with its arguments in a mode
pub data Origin : Type 0 where
  the_top : Origin
  function : Mode → PlainValue → List PlainValue → Origin

abbrev pub mode_of : Origin → Mode
mode_of the_top = Top
mode_of (function mode f args) = mode

-- before the top level has run no constant has a value
abbrev pub bare : PlainProgram → Ground
bare program = record { program = program; constants = [] }

abbrev pub setting_of : Ground → ℕ → Origin → Setting
setting_of base budget o = record { base = base; mode = mode_of o; budget = budget }

-- the constants that a body has of its own
abbrev pub own_constants : Ground → Origin → Option (List (Option PlainValue))
own_constants base the_top = Some (map constant_start base.program.constants)
own_constants base (function mode f args) = None

-- how a body begins, with these replies
abbrev pub start_of : Ground → ℕ → Origin → List PlainEvent → State
start_of base budget o replies =
    record {
      slots = [];
      constants = own_constants base o;
      calls = 0;
      fuel = budget;
      replies = replies;
      effects = [];
      delivered = 0;
    }

-- The top level is no call. A function is called at no line: that fault can't come where it is a function.
module _ (g : Setting) (ev : ℕ → State → Outcome) where
  abbrev pub runs_body : Origin → State → Outcome
  runs_body the_top s = enters ev 0 g.base.program.top [] [] s
  runs_body (function mode f args) s = calls g ev 0 f args s

-- The outcome of a body from its start, with these replies.
unfoldable pub evaluation : Ground → ℕ → Origin → List PlainEvent → Outcome
evaluation base budget o replies =
    runs_body (setting_of base budget o) (eval (setting_of base budget o)) o
    (start_of base budget o replies)

-- the constants as the top level leaves them
abbrev pub constants_left : Outcome → List (Option PlainValue)
constants_left (went c s) = unwrap_or s.constants []
constants_left _ = []

-- what all but the top level stands on
unfoldable pub ground_of : PlainProgram → ℕ → Ground
ground_of program budget =
    record {
      program = program;
      constants = constants_left (evaluation (bare program) budget the_top []);
    }
