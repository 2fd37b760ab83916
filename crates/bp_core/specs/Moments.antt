-- What a core stands for.
use Rattle.std.specs.Prelude.{◌≡◌, ℕ, Bool, true, false, List, [], ◌∷◌, Option, Some, None, IsSome}
use Rattle.std.specs.List.{AllZip}
use Rattle.js_meaning.specs.State.{Ground, Effect}
use Rattle.js_meaning.specs.Bodies.{Origin}
use Rattle.bp_log.specs.declared.trace.Line.{Line}
use Rattle.bp_run.specs.Settling.{Body}
use Rattle.bp_steps.specs.declared.step.CoreStep.{CoreStep}
use Rattle.bp_steps.specs.Steps.{Moment, pair_at, lent_bodies, lends, settled, after_step}
use Rattle.bp_thread.specs.declared.job.Job.{Job}
use Rattle.bp_thread.specs.Jobs.{plain_job, IsOf, StandsAt, IsWhole}
use Rattle.bp_thread.specs.Carried.{Carries, HaveDistinctNumbers}
use Rattle.bp_code.specs.Code.{ground_for}
use Rattle.bp_code.specs.Nodes.{nodes_of}
use Rattle.bp_floor.specs.declared.phase.Phase.{Phase}
use Rattle.bp_floor.specs.declared.phase.Phase.TheVariants.{Ready, Lent, Rest, Over}
use Rattle.bp_floor.specs.Floors.{phase_of}
use Rattle.bp_arbiter.specs.Arbiters.{PlainArbiter, StandsFor, Recounts, code_in, options_in}
use Rattle.bp_arbiter.specs.Lend.{AreOut}

-- this many nodes have begun since the start or the last reply, or the outcome is there
abbrev pub HasBegun : Ground → ℕ → Job → Option ℕ → Type 0
HasBegun base budget j None = IsSome (plain_job j).outcome
HasBegun base budget j (Some n) =
    ((plain_job j).outcome ≡ None) × (made : List Effect) × StandsAt base budget n made j

-- a job of this body, on its ground, of which so much has begun
pub record IsBegun (base : Ground) (budget : ℕ) (b : Body Origin) (j : Job) (at : Option ℕ)
    : Type 0 where
  pub origin : (plain_job j).origin ≡ b.origin
  pub replies : (plain_job j).replies ≡ b.replies
  pub of_program : IsOf base.program j
  pub ground : base ≡ ground_for base.program budget b.origin
  pub whole : IsWhole base budget j
  pub begun : HasBegun base budget j at

-- the jobs are those of these bodies, in order, and of each of them so much has begun
abbrev pub AreBegun : Ground → ℕ → List (Body Origin) → List Job → List (Option ℕ) → Type 0
AreBegun base budget [] [] [] = Unit {0}
AreBegun base budget [] [] (n ∷ ns) = ⊥
AreBegun base budget [] (j ∷ js) ns = ⊥
AreBegun base budget (b ∷ bs) [] ns = ⊥
AreBegun base budget (b ∷ bs) (j ∷ js) [] = ⊥
AreBegun base budget (b ∷ bs) (j ∷ js) (n ∷ ns) =
    IsBegun base budget b j n × AreBegun base budget bs js ns

-- such jobs were lent, and these are they, carried on
pub record IsOut (a : PlainArbiter) (jobs : List Job) : Type 0 where
  pub first : List Job
  pub out : AreOut a first
  pub distinct : HaveDistinctNumbers first
  pub carried : AllZip (Carries a.floor.base (options_in a).budget) first jobs

abbrev pub is_ready : Phase → Bool
is_ready Ready = true
is_ready Lent = false
is_ready Rest = false
is_ready Over = false

-- where a core lends at once
abbrev pub lent_at_once : Phase → Phase
lent_at_once Ready = Lent
lent_at_once Lent = Lent
lent_at_once Rest = Rest
lent_at_once Over = Over

-- the arbiter, from which these lines were taken, is at this moment, but for the jobs that are to be
-- lent
pub record IsReadyAt (a : PlainArbiter) (taken : List Line) (m : Moment Origin) : Type 0 where
  pub stands : StandsFor a [] taken (pair_at m)
  pub records : a.records ≡ m.records
  pub told : Recounts a (settled (code_in a) m)
  pub phase : a.phase ≡ phase_of (pair_at m)
  pub lent : m.lent ≡ lends (code_in a) (pair_at m)

-- the arbiter, from which these lines were taken and whose lent jobs these are, is at this moment
pub record IsAt (a : PlainArbiter) (jobs : List Job) (taken : List Line) (m : Moment Origin)
    : Type 0 where
  pub stands : StandsFor a jobs taken (pair_at m)
  pub records : a.records ≡ m.records
  pub told : Recounts a (settled (code_in a) m)
  pub phase : a.phase ≡ lent_at_once (phase_of (pair_at m))
  pub lent : AreBegun a.floor.base (options_in a).budget (lent_bodies (code_in a) (pair_at m)) jobs
      m.lent
  pub out : a.phase ≡ Lent → IsOut a jobs

-- where this step leads on this arbiter
abbrev pub step_on : PlainArbiter → Moment Origin → CoreStep → Option (Moment Origin)
step_on a m s =
    after_step (code_in a) (options_in a) (nodes_of a.floor.base.program (options_in a)) m s
