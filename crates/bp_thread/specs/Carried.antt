-- What stays of jobs while they are carried on, and what they are once they are done.
use Rattle.std.specs.Prelude.{◌≡◌, ℕ, ◌<◌, eqb, List, length, map, slice_index_or, IsSome, Some}
use Rattle.std.specs.List.{IsDistinct}
use Rattle.js_meaning.specs.State.{Ground, effects_since}
use Rattle.js_meaning.specs.Bodies.{evaluation}
use Rattle.bp_meaning.specs.After.{outcome_of, handler}
use Rattle.bp_thread.specs.declared.job.Job.{Job}
use Rattle.bp_thread.specs.Jobs.{PlainJob, plain_job, IsOf, StandsFor, IsWhole, IsSame}

-- The job with its outcome and with all that its body did since its start or its last reply.
abbrev pub carried : Ground → ℕ → PlainJob → PlainJob
carried base budget j = record j {
  effects = effects_since (evaluation base budget j.origin j.replies);
  handler = handler base budget j.origin j.replies;
  outcome = Some (outcome_of (evaluation base budget j.origin j.replies));
}

-- x is the job e, carried on: number, name, origin and replies are e's, it stands for its body if e
-- did, its effects are whole if e's were, and it is of the ground's program if e was
pub record Carries (base : Ground) (budget : ℕ) (e x : Job) : Type 0 where
  pub same : IsSame (plain_job e) (plain_job x)
  pub stands : StandsFor base budget e → StandsFor base budget x
  pub whole : IsWhole base budget e → IsWhole base budget x
  pub of_program : IsOf base.program e → IsOf base.program x

-- x is the job e, carried to its outcome
pub record CarriedOut (base : Ground) (budget : ℕ) (e x : Job) : Type 0 where
  pub carries : Carries base budget e x
  pub outcome : IsSome (plain_job x).outcome

-- the same jobs in the same order, each carried to its outcome
pub record AreCarriedOut (base : Ground) (budget : ℕ) (before after : List Job) : Type 0 where
  pub as_many : length after ≡ length before
  pub each : (k : ℕ) (d e : Job) → k < length before
      → CarriedOut base budget (slice_index_or before k d) (slice_index_or after k e)

-- no two jobs have one number
abbrev pub HaveDistinctNumbers : List Job → Type 0
HaveDistinctNumbers jobs = IsDistinct eqb (map (λ j. (plain_job j).number) jobs)
