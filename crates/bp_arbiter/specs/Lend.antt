-- The jobs that an arbiter lends, and that come back.
use Rattle.std.specs.Prelude.{◌≡◌, ℕ, List, [], None}
use Rattle.std.specs.List.{AllByRecursion}
use Rattle.js_meaning.specs.State.{Ground}
use Rattle.js_meaning.specs.Bodies.{Origin}
use Rattle.bp_log.specs.declared.trace.Line.{Line}
use Rattle.bp_run.specs.Settling.{Pair}
use Rattle.bp_thread.specs.declared.job.Job.{Job}
use Rattle.bp_thread.specs.Jobs.{plain_job, IsOf, IsWhole}
use Rattle.bp_thread.specs.Carried.{AreCarriedOut}
use Rattle.bp_code.specs.Code.{ground_for}
use Rattle.bp_floor.specs.Loans.{AreLent, filled_pair, standing}
use Rattle.bp_arbiter.specs.Arbiters.{PlainArbiter, StandsFor, options_in}

-- a job of the ground's program that is to be carried on, with its effects whole; the ground is that of
-- its body
pub record CanRun (base : Ground) (budget : ℕ) (j : Job) : Type 0 where
  pub ground : base ≡ ground_for base.program budget (plain_job j).origin
  pub of_program : IsOf base.program j
  pub effects : (plain_job j).effects ≡ []
  pub outcome : (plain_job j).outcome ≡ None
  pub whole : IsWhole base budget j

abbrev pub AllCanRun : Ground → ℕ → List Job → Type 0
AllCanRun base budget jobs = AllByRecursion (CanRun base budget) jobs

-- the jobs are those of what is to be run, in order, and each stands at the start of its slices on the
-- arbiter's ground
pub record AreOut (a : PlainArbiter) (jobs : List Job) : Type 0 where
  pub can_run : AllCanRun a.floor.base (options_in a).budget jobs
  pub lent : AreLent a.floor.base.program (options_in a)
      (standing (filled_pair jobs a.floor.pair).stand.threads) a.floor.pair.entries jobs

-- the jobs are the lent ones, in the same order, each carried to its outcome with its effects whole
abbrev pub AreReturned : PlainArbiter → List Job → List Job → Type 0
AreReturned a jobs lent = AreCarriedOut a.floor.base (options_in a).budget lent jobs

-- such jobs were lent, for some pair that the arbiter stands for
pub record AreBack (a : PlainArbiter) (jobs : List Job) : Type 0 where
  pub lent : List Job
  pub taken : List Line
  pub pair : Pair Origin
  pub stands : StandsFor a lent taken pair
  pub out : AreOut a lent
  pub carried : AreReturned a jobs lent
