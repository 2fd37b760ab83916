-- What a node finds when it begins, and what comes of it.
use Rattle.std.specs.Prelude.{ℕ, List, drop, Option, Ok, Err}
use Rattle.js_data.specs.Event.{PlainEvent}
use Rattle.js_data.specs.declared.fault.Fault.{Fault}
use Rattle.js_value.specs.Value.{PlainValue, undefined}
use Rattle.js_ops.specs.Made.{Answer}
use Rattle.js_program.specs.declared.builtin.Mode.{Mode}
use Rattle.js_program.specs.PlainProgram.{PlainProgram}

-- a program, and the values of its constants as the top level leaves them: nothing where one is not declared
pub record Ground : Type 0 where
  pub program : PlainProgram
  pub constants : List (Option PlainValue)

-- what stays the same while a body runs, and how many nodes may begin before each reply
pub record Setting : Type 0 where
  pub base : Ground
  pub mode : Mode
  pub budget : ℕ

-- what a script does to the run around it
pub data Effect : Type 0 where
  says : List ℕ → Effect
  enqueues : PlainEvent → Effect
  -- a name and a function
  registers : List ℕ → PlainValue → Effect
  -- the function that runs when the b-thread is interrupted
  handles : PlainValue → Effect

pub record State : Type 0 where
  -- the variables of the function that runs: nothing where one is not declared yet
  pub slots : List (Option PlainValue)
  -- in the evaluation of the top level the constants so far; in every other one none, since they are
  -- the ground's
  pub constants : Option (List (Option PlainValue))
  -- how many calls are active
  pub calls : ℕ
  -- how many nodes may still begin before the next reply
  pub fuel : ℕ
  -- the events that are still received
  pub replies : List PlainEvent
  pub effects : List Effect
  -- how many of the effects came before the last reply
  pub delivered : ℕ

-- how a node completes: an expression with its value, and a statement mostly with undefined
pub data Completion : Type 0 where
  normal : PlainValue → Completion
  broke : Completion
  continued : Completion
  returned : PlainValue → Completion

-- what is left where an evaluation ends before it has a value
pub record Left : Type 0 where
  pub effects : List Effect
  pub delivered : ℕ
  pub fuel : ℕ

abbrev pub left_of : State → Left
left_of s = record { effects = s.effects; delivered = s.delivered; fuel = s.fuel }

pub data Outcome : Type 0 where
  -- the node completed
  went : Completion → State → Outcome
  -- a fault and its line
  broken : Fault → ℕ → Left → Outcome
  -- an assertion failed: its text
  violated : List ℕ → Left → Outcome
  -- a node must begin and no fuel is left
  spent : Left → Outcome
  -- `bp.sync` was reached and no reply is left: its statement, its priority and its line
  stopped : PlainValue → PlainValue → ℕ → Left → Outcome

-- what is left of it, however it ended
abbrev pub left_by : Outcome → Left
left_by (went c s) = left_of s
left_by (broken f line l) = l
left_by (violated text l) = l
left_by (spent l) = l
left_by (stopped statement priority line l) = l

-- everything that it did to the run around it, over all replies
abbrev pub effects_of : Outcome → List Effect
effects_of o = (left_by o).effects

-- what it did since the last reply
abbrev pub effects_since : Outcome → List Effect
effects_since o = drop (left_by o).delivered (left_by o).effects

-- goes on with the value, where there is one
infixl 10 ◌>>=◌
abbrev pub ◌>>=◌ : Outcome → (PlainValue → State → Outcome) → Outcome
(went (normal v) s) >>= f = f v s
o >>= f = o

-- completes with a value
abbrev pub gives : PlainValue → State → Outcome
gives v s = went (normal v) s

-- a statement completes
abbrev pub leaves : State → Outcome
leaves s = gives undefined s

-- a node must begin and no fuel is left
abbrev pub spends : State → Outcome
spends s = spent (record (left_of s) { fuel = 0 })

abbrev pub breaks : Fault → ℕ → State → Outcome
breaks fault line s = broken fault line (left_of s)

-- the answer of an operator or of a making of values, at its line
abbrev pub answered : ℕ → Answer → State → Outcome
answered line (Ok v) s = gives v s
answered line (Err fault) s = breaks fault line s
