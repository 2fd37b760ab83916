-- What is still to come of a source, whatever the blocks in which it comes.
use Rattle.std.specs.Prelude.{◌≡◌, ℕ, List, [], ◌∷◌, Option, Some, None, IfSome, IsSomeAnd}
use Rattle.bp_reading.specs.Heads.{Front, whole, partial, excess}
use Rattle.bp_reader.specs.declared.input.Taken.{Taken}
use Rattle.bp_reader.specs.declared.input.Taken.TheVariants.{Line, Partial, Excess}

-- the bytes still to come, where the source tells them, how often it failed, and which of the bytes the
-- source itself has still
pub record Fed : Type 0 where
  pub left : Option (List ℕ)
  pub faults : ℕ
  pub source : Option (List ℕ)

-- of the bytes that were to come before and of those after, where the source tells them, this holds
abbrev pub Between : Option (List ℕ) → Option (List ℕ) → (List ℕ → List ℕ → Type 0) → Type 0
Between before after holds = IfSome before (λ bytes. IsSomeAnd after (λ rest. holds bytes rest))

-- the next byte was taken, or there is none
abbrev pub Comes : Option (List ℕ) → Option ℕ → Option (List ℕ) → Type 0
Comes before None after = IfSome before (λ bytes. (bytes ≡ []) × (after ≡ Some []))
Comes before (Some b) after = IfSome before (λ bytes. IsSomeAnd after (λ rest. bytes ≡ b ∷ rest))

-- what was taken is what the bytes began with
abbrev pub IsFront : Taken → Front → Option (List ℕ) → Type 0
IsFront (Line v) front after = IsSomeAnd after (λ rest. front ≡ whole v.items rest)
IsFront Partial front after = front ≡ partial
IsFront Excess front after = front ≡ excess
