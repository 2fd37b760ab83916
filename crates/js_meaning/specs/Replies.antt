-- What more replies change: an evaluation that stopped goes on, and every other one is the same.
use Rattle.std.specs.Prelude.{◌≡◌, List, [], ◌++◌, length}
use Rattle.js_data.specs.Event.{PlainEvent}
use Rattle.js_meaning.specs.State.{Effect, State, Outcome, went, broken, violated, spent, stopped, left_by, effects_of}

-- with more replies after those that are left
abbrev pub with_more : List PlainEvent → State → State
with_more more s = record s { replies = s.replies ++ more }

abbrev pub TookAll : Outcome → Type 0
TookAll (went c s) = s.replies ≡ []
TookAll _ = Unit {0}

-- Effects come after these; and if one more reply came, these are the ones delivered, and no reply is left.
pub record Behind (more : List PlainEvent) (effects : List Effect) (o : Outcome) : Type 0 where
  pub added : List Effect
  pub effects_are : effects_of o ≡ effects ++ added
  pub delivered : length more ≡ 1 → (left_by o).delivered ≡ length effects
  pub took_all : length more ≡ 1 → TookAll o

-- the second outcome is the first one with more replies
abbrev pub GoesOn : List PlainEvent → Outcome → Outcome → Type 0
GoesOn more (went c s) o = o ≡ went c (with_more more s)
GoesOn more (broken f line l) o = o ≡ broken f line l
GoesOn more (violated text l) o = o ≡ violated text l
GoesOn more (spent l) o = o ≡ spent l
GoesOn more (stopped statement priority line l) o = Behind more l.effects o
