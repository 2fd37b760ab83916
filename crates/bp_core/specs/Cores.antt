-- What contracts see of a core.
use Rattle.std.specs.Prelude.{◌≡◌, ◌⊎◌, ℕ, Bool, true, false, not, ◌&&◌, nat_lt, nat_eq, is_some, length, List, All, ◌∷◌, ◌++◌, Option, Some, None, IsSome, slice_get}
use Rattle.std.specs.List.{AllByRecursion, AllZip, list_any, list_all}
use Rattle.bp_log.specs.declared.item.Item.{Item}
use Rattle.bp_log.specs.declared.record.Record.{Record}
use Rattle.bp_steps.specs.declared.step.CoreStep.TheVariants.{Absorb, Pick, Slice, Seal}
use Rattle.bp_code.specs.Nodes.{nodes_of}
use Rattle.bp_floor.specs.declared.phase.Phase.{Phase}
use Rattle.bp_floor.specs.declared.phase.Phase.TheVariants.{Ready, Lent, Rest, Over}
use Rattle.bp_core.specs.declared.play_fault.PlayFault.{PlayFault}
use Rattle.bp_core.specs.declared.play_fault.PlayFault.TheVariants as fault
use Rattle.bp_arbiter.specs.Absorb.{is_failed, fits}
use Rattle.js_meaning.specs.Bodies.{Origin}
use Rattle.bp_log.specs.declared.trace.Line.{Line}
use Rattle.bp_steps.specs.declared.step.CoreStep.{CoreStep}
use Rattle.bp_steps.specs.Steps.{Moment, pair_at, lends, played}
use Rattle.bp_thread.specs.declared.job.Job.{Job}
use Rattle.bp_thread.specs.Jobs.{plain_job, IsOf, IsWhole}
use Rattle.bp_thread.specs.Carried.{Carries, HaveDistinctNumbers}
use Rattle.bp_arbiter.specs.Arbiters.{PlainArbiter, Tells, code_in, options_in, stand_in, is_lent as lent_phase}
use Rattle.bp_core.specs.declared.stepping.Core.{Core}
use Rattle.bp_core.specs.Moments.{IsAt, step_on}

-- the core, from which these lines were taken and whose lent jobs these are, is at this moment
pub record IsCoreAt (c : Core) (jobs : List Job) (taken : List Line) (m : Moment Origin)
    : Type 0 where
  pub whole : c.broken ≡ false
  pub at : IsAt c.arbiter jobs taken m

-- it is at some moment
pub record IsSomewhere (c : Core) (jobs : List Job) : Type 0 where
  pub taken : List Line
  pub moment : Moment Origin
  pub at : IsCoreAt c jobs taken moment

-- the step leads from one to the other
pub record IsStep (old new : Core) (taken : List Line) (m : Moment Origin) (s : CoreStep)
    : Type 0 where
  pub next : Moment Origin
  pub leads : step_on old.arbiter m s ≡ Some next
  pub at : IsCoreAt new new.jobs.items taken next

-- wherever the core was, it made this step
abbrev pub Makes : Core → Core → CoreStep → Type 0
Makes old new s =
    (taken : List Line) (m : Moment Origin) → IsCoreAt old old.jobs.items taken m
    → IsStep old new taken m s

-- wherever the core was, it is there after these jobs were handed in, if they are the lent ones, in their
-- order, each carried on
abbrev pub HandsIn : Core → List Job → Core → Type 0
HandsIn old jobs new =
    (lent : List Job) (taken : List Line) (m : Moment Origin) → IsCoreAt old lent taken m
    → AllZip (Carries old.arbiter.floor.base (options_in old.arbiter).budget) lent jobs
    → (ks : List (Option ℕ)) × IsCoreAt new new.jobs.items taken (record m { lent = ks })

-- Lent jobs are of the arbiter's program, and their effects are whole; no two have one number; and where
-- no node has begun none of them has an outcome.
pub record CanRunNow (a : PlainArbiter) (jobs : List Job) (m : Moment Origin) : Type 0 where
  pub of_program : All (IsOf a.floor.base.program) jobs
  pub whole : All (IsWhole a.floor.base (options_in a).budget) jobs
  pub distinct : HaveDistinctNumbers jobs
  pub open_still : m.lent ≡ lends (code_in a) (pair_at m)
      → All (λ j. (plain_job j).outcome ≡ None) jobs

-- the records from before a step, or those from after it
abbrev pub AreBetween : PlainArbiter → Moment Origin → CoreStep → List Record → Type 0
AreBetween a m s records =
    (records ≡ m.records)
    ⊎ ((n : Moment Origin) × (step_on a m s ≡ Some n) × (records ≡ n.records))

-- Memory ran out in this step: the records are those from before it or after it, and a story
-- still; the lines taken and to be taken are the first of the story's.
pub record IsCut (old new : Core) (taken : List Line) (m : Moment Origin) (s : CoreStep)
    : Type 0 where
  pub records : AreBetween old.arbiter m s new.arbiter.records
  pub tells : Tells new.arbiter taken

-- wherever the core was, memory ran out in this step
abbrev pub Cuts : Core → Core → CoreStep → Type 0
Cuts old new s =
    (taken : List Line) (m : Moment Origin) → IsCoreAt old old.jobs.items taken m
    → IsCut old new taken m s

abbrev pub AreDone : List Job → Type 0
AreDone jobs = AllByRecursion (λ j. IsSome (plain_job j).outcome) jobs

-- ---- which steps are legal, by what the core has

abbrev pub is_rest : Phase → Bool
is_rest Ready = false
is_rest Lent = false
is_rest Rest = true
is_rest Over = false

-- an item of this injector may come
abbrev pub takes : PlainArbiter → ℕ → Item → Bool
takes a j x = (not (is_failed x) && list_any (nat_eq j) a.reading) && fits (stand_in a) x

abbrev pub has_outcome : Job → Bool
has_outcome j = is_some (plain_job j).outcome

-- the job is there, and goes on
abbrev pub is_open : Option Job → Bool
is_open None = false
is_open (Some j) = not (has_outcome j)

abbrev pub is_legal : PlainArbiter → List Job → CoreStep → Bool
is_legal a jobs (Absorb j x) = is_rest a.phase && takes a j x
is_legal a jobs Pick = is_rest a.phase
is_legal a jobs (Slice i n) = (lent_phase a.phase && nat_lt 0 n) && is_open (slice_get jobs i)
is_legal a jobs Seal = lent_phase a.phase && list_all has_outcome jobs

-- the program and the options stay
pub record KeepsProgram (old new : PlainArbiter) : Type 0 where
  pub program : new.floor.base.program ≡ old.floor.base.program
  pub options : options_in new ≡ options_in old

-- where these steps lead on this arbiter
abbrev pub played_on : PlainArbiter → List CoreStep → Moment Origin → Option (Moment Origin)
played_on a steps m =
    played (code_in a) (options_in a) (nodes_of a.floor.base.program (options_in a)) steps m

-- the steps lead from one to the other
pub record IsPlayed (old new : Core) (taken : List Line) (m : Moment Origin) (steps : List CoreStep)
    : Type 0 where
  pub next : Moment Origin
  pub leads : played_on old.arbiter steps m ≡ Some next
  pub at : IsCoreAt new new.jobs.items taken next

-- wherever the core was, it made these steps
abbrev pub Plays : Core → Core → List CoreStep → Type 0
Plays old new steps =
    (taken : List Line) (m : Moment Origin) → IsCoreAt old old.jobs.items taken m
    → IsPlayed old new taken m steps

-- these steps were made, and the next one is not legal
pub record IsRefused (old new : Core) (steps : List CoreStep) (at : ℕ) (step : CoreStep)
    : Type 0 where
  pub front : List CoreStep
  pub rest : List CoreStep
  pub all : steps ≡ front ++ step ∷ rest
  pub place : at ≡ length front
  pub made : Plays old new front
  pub illegal : (taken : List Line) (m : Moment Origin) → IsCoreAt new new.jobs.items taken m
      → step_on new.arbiter m step ≡ None

-- the steps were made, and memory ran out in the one after them
pub record IsPlayedTo (old new : Core) (taken : List Line) (m : Moment Origin)
    (front : List CoreStep) (step : CoreStep) : Type 0 where
  pub next : Moment Origin
  pub leads : played_on old.arbiter front m ≡ Some next
  pub records : AreBetween old.arbiter next step new.arbiter.records
  pub tells : Tells new.arbiter taken

-- these steps were made wherever the core was, and memory ran out in the next one
pub record IsCutOff (old new : Core) (steps : List CoreStep) (at : ℕ) : Type 0 where
  pub front : List CoreStep
  pub step : CoreStep
  pub rest : List CoreStep
  pub all : steps ≡ front ++ step ∷ rest
  pub place : at ≡ length front
  pub made : (taken : List Line) (m : Moment Origin) → IsCoreAt old old.jobs.items taken m
      → IsPlayedTo old new taken m front step
  pub broken : new.broken ≡ true

abbrev pub PlayEnds : Core → Core → List CoreStep → PlayFault → Type 0
PlayEnds old new steps (fault.Illegal at step) = IsRefused old new steps at step
PlayEnds old new steps (fault.Memory at) = IsCutOff old new steps at

-- a wave was to be run, and was lent: as many b-threads are there
pub record HasLent (old new : PlainArbiter) : Type 0 where
  pub ready : old.phase ≡ Ready
  pub count : length (stand_in new).threads ≡ length (stand_in old).threads
