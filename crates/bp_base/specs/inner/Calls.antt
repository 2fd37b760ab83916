-- Calls that are made to fail. Calls are numbered from 1, and the number stands still as a count of
-- faults does.
use Rattle.std.specs.Prelude.{ℕ, Bool, ◌==◌, List}
use Rattle.std.specs.List.{list_any}
use Rattle.bp_base.specs.Counts.{raised}

-- how many calls were made, and the numbers of those that are to fail
pub record Plan : Type 0 where
  pub made : ℕ
  pub fails : List ℕ

-- before the first call
abbrev pub planned : List ℕ → Plan
planned fails = record { made = 0; fails = fails }

-- whether the next call is to fail
abbrev pub is_to_fail : Plan → Bool
is_to_fail plan = list_any (λ number. number == raised plan.made) plan.fails

-- after the next call
abbrev pub called : Plan → Plan
called plan = record plan { made = raised plan.made }
