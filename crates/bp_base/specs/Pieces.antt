-- Bytes that come and go a piece at a time. What a source has left, and what a sink was given, is told or not:
-- `None` tells nothing, and then these facts say nothing.
use Rattle.std.specs.Prelude.{◌≡◌, ℕ, List, ◌++◌, Option, Some, IfSome, IsSomeAnd}

-- the piece was the front of what was left
abbrev pub Gives : Option (List ℕ) → List ℕ → Option (List ℕ) → Type 0
Gives before piece after = IfSome before (λ bytes. IsSomeAnd after (λ rest. bytes ≡ piece ++ rest))

-- some piece was the front of what was left
abbrev pub GivesSome : Option (List ℕ) → Option (List ℕ) → Type 0
GivesSome before after = (piece : List ℕ) × Gives before piece after

-- the piece was added at the end
abbrev pub Appends : Option (List ℕ) → List ℕ → Option (List ℕ) → Type 0
Appends before piece after = IfSome before (λ bytes. after ≡ Some (bytes ++ piece))

-- a part of the piece, from its front, was added at the end
abbrev pub AppendsFront : Option (List ℕ) → List ℕ → Option (List ℕ) → Type 0
AppendsFront before piece after =
    (front : List ℕ) × (rest : List ℕ) × (piece ≡ front ++ rest) × Appends before front after
