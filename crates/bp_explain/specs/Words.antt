-- What is said of a program's code beside what its runs need.
use Rattle.std.specs.Prelude.{ℕ, Bool, List, Option}
use Rattle.js_data.specs.Event.{PlainEvent}

-- how sets are said
pub record Spelling (Set : Type 0) : Type 0 where
  pub words : Set → List ℕ
  -- the set of a key that was not stated
  pub is_absent : Set → Bool

pub record Words (Origin Set : Type 0) : Type 0 where
  -- the line of the `bp.sync` where a body stands after these events, if it stands at one
  pub line : Origin → List PlainEvent → Option ℕ
  pub spelling : Spelling Set
