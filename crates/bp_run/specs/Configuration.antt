-- A configuration of the transition system.
use Rattle.std.specs.Prelude.{ℕ, zero, suc, Bool, not, List, [], ◌∷◌, ◌++◌, Option, Some, None, count_by}
use Rattle.js_data.specs.Event.{PlainEvent}
use Rattle.bp_log.specs.declared.trace.Line.{Line}
use Rattle.bp_log.specs.declared.verdict.Verdict.{Verdict}

-- a b-thread: the body that it runs, the events that it received, and whether it has ended
pub record Thread (Origin : Type 0) : Type 0 where
  pub name : List ℕ
  pub origin : Origin
  pub replies : List PlainEvent
  pub ended : Bool

-- where the b-threads of a run stand: in registration order, with the queue, what was counted, the
-- lines and the verdict
pub record Stand (Origin : Type 0) : Type 0 where
  pub threads : List (Thread Origin)
  pub queue : List PlainEvent
  pub transitions : ℕ
  pub weight : ℕ
  pub lines : List Line
  pub verdict : Option Verdict

pub record Configuration (Origin : Type 0) : Type 0 where
  pub stand : Stand Origin
  -- how many words were drawn
  pub drawn : ℕ
  -- the injectors that have not ended, and the first bad line
  pub reading : List ℕ
  pub bad : Option (ℕ × ℕ)

-- the numbers below n
abbrev pub below : ℕ → List ℕ
below zero = []
below (suc n) = below n ++ n ∷ []

abbrev pub empty : {Origin : Type 0} → Stand Origin
empty = record { threads = []; queue = []; transitions = 0; weight = 0; lines = []; verdict = None }

-- a change of the one with this number
abbrev pub change : {A : Type 0} → (A → A) → ℕ → List A → List A
change f i [] = []
change f zero (t ∷ ts) = f t ∷ ts
change f (suc i) (t ∷ ts) = t ∷ change f i ts

abbrev pub name_in : {Origin : Type 0} → Option (Thread Origin) → List ℕ
name_in None = []
name_in (Some t) = t.name

-- how many b-threads have not ended
abbrev pub not_ended : {Origin : Type 0} → Stand Origin → ℕ
not_ended s = count_by (λ t. not t.ended) s.threads
