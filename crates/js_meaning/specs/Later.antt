-- What an evaluation leaves follows on what it found.
use Rattle.std.specs.Prelude.{◌≡◌, ◌≤◌, ℕ, List, [], length, ◌++◌, option_map}
use Rattle.js_data.specs.Event.{PlainEvent}
use Rattle.js_meaning.specs.State.{Effect, State, Left, left_of, Outcome, went, broken, violated, spent, stopped}

-- What is left follows on a state: effects were added at the end, and fuel rose at a reply alone, to no
-- more than the budget.
pub record Beyond (budget : ℕ) (s : State) (l : Left) : Type 0 where
  pub added : List Effect
  pub effects : l.effects ≡ s.effects ++ added
  pub delivered : s.delivered ≤ length s.effects → l.delivered ≤ length l.effects
  pub fuel : s.fuel ≤ budget → l.fuel ≤ budget
  -- without replies nothing is delivered, and no fuel is added
  pub same_delivered : s.replies ≡ [] → l.delivered ≡ s.delivered
  pub less_fuel : s.replies ≡ [] → l.fuel ≤ s.fuel

-- So does a state: there are as many slots, constants and active calls, and replies were taken from the front.
pub record Later (budget : ℕ) (s t : State) : Type 0 where
  pub slots : length t.slots ≡ length s.slots
  pub constants : option_map length t.constants ≡ option_map length s.constants
  pub calls : t.calls ≡ s.calls
  pub taken : List PlainEvent
  pub replies : s.replies ≡ taken ++ t.replies
  pub left : Beyond budget s (left_of t)

-- What any outcome leaves follows; and where it is spent, no fuel is left.
abbrev pub Follows : ℕ → State → Outcome → Type 0
Follows budget s (went c t) = Later budget s t
Follows budget s (broken f line l) = Beyond budget s l
Follows budget s (violated text l) = Beyond budget s l
Follows budget s (spent l) = Beyond budget s l × (l.fuel ≡ 0)
Follows budget s (stopped statement priority line l) = Beyond budget s l
