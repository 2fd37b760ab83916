-- What every arbiter keeps.
use Rattle.std.specs.Prelude.{◌≡◌, ℕ, false, List, []}
use Rattle.js_meaning.specs.Bodies.{Origin}
use Rattle.bp_log.specs.Records.{is_complete}
use Rattle.bp_log.specs.declared.trace.Line.{Line}
use Rattle.bp_run.specs.Settling.{Pair}
use Rattle.bp_thread.specs.declared.job.Job.{Job}
use Rattle.bp_arbiter.specs.Arbiters.{PlainArbiter, StandsFor, Tells, Keeps, is_lent, is_over, options_in}

-- it stands for some pair; jobs are lent at `Lent` alone
pub record IsStanding (a : PlainArbiter) : Type 0 where
  pub jobs : List Job
  pub taken : List Line
  pub pair : Pair Origin
  pub stands : StandsFor a jobs taken pair
  pub unlent : is_lent a.phase ≡ false → jobs ≡ []
  pub keeps : Keeps a

-- The words are those of the options' seed. The records end in a verdict at `Over` alone, and are a
-- story, also after memory ran out; unless memory ran out, the arbiter stands for a pair.
pub record IsSound (seed : ℕ) (a : PlainArbiter) : Type 0 where
  pub seed_is : seed ≡ (options_in a).seed
  pub over : is_complete a.records ≡ is_over a.phase
  pub taken : List Line
  pub tells : Tells a taken
  pub standing : a.broken ≡ false → IsStanding a
