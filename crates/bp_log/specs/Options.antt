-- What is asked of a run.
use Rattle.std.specs.Prelude.{ℕ, Bool, true, ◌≤◌}
use Rattle.bp_log.specs.declared.limits.TheConstants.{MOST_BUDGET, MOST_STEPS, MOST_INJECTORS}
use Rattle.bp_log.specs.declared.options.Strategy.{Strategy}
use Rattle.bp_log.specs.declared.options.Strategy.TheVariants.{Simple}

pub record PlainOptions : Type 0 where
  pub strategy : Strategy
  pub seed : ℕ
  pub budget : ℕ
  pub steps : ℕ
  pub injectors : ℕ
  -- whether the run waits for its injectors where nothing is selectable
  pub wait : Bool

-- the numbers are in their ranges
pub record AreOptions (o : PlainOptions) : Type 0 where
  pub some_budget : 1 ≤ o.budget
  pub budget : o.budget ≤ MOST_BUDGET
  pub some_steps : 1 ≤ o.steps
  pub steps : o.steps ≤ MOST_STEPS
  pub injectors : o.injectors ≤ MOST_INJECTORS

-- where nothing is said
abbrev pub default_options : PlainOptions
default_options =
    record { strategy = Simple; seed = 0; budget = 1_000_000; steps = 100_000; injectors = 0; wait = true }
