-- Jobs are taken out, one after the other.
use Rattle.std.specs.Prelude.{◌≡◌, ℕ, List, [], ◌∷◌, Some, None, length, map, option_to_list, slice_get}
use Rattle.js_meaning.specs.State.{Ground}
use Rattle.js_meaning.specs.Bodies.{Origin, the_top}
use Rattle.bp_log.specs.Options.{PlainOptions}
use Rattle.bp_run.specs.Configuration.{change}
use Rattle.bp_run.specs.Settling.{Entry}
use Rattle.bp_run.specs.Settling.Entry.{The_top, Runs, Stops}
use Rattle.bp_thread.specs.declared.job.Job.{Job}
use Rattle.bp_thread.specs.Jobs.{plain_job, IsOf, IsFresh}
use Rattle.bp_floor.specs.inner.Seats.{PlainSeat, seated, is_waiting, is_ready, where_from, stated_from, AreOwn}
use Rattle.bp_floor.specs.inner.SeatViews.{job_at}
use Rattle.bp_floor.specs.inner.Kept.{Running, AreBelow, runs_in}
use Rattle.bp_floor.specs.Loans.{AreLent, filled, standing}
use Rattle.bp_floor.specs.Returns.{ground_at, RunsAlone}

-- a job that stands at the start of this body
pub record IsStarted (base : Ground) (o : PlainOptions) (number : ℕ) (origin : Origin) (j : Job)
    : Type 0 where
  pub number_is : (plain_job j).number ≡ number
  pub origin_is : (plain_job j).origin ≡ origin
  pub replies : (plain_job j).replies ≡ []
  pub effects : (plain_job j).effects ≡ []
  pub outcome : (plain_job j).outcome ≡ None
  pub of_program : IsOf base.program j
  pub fresh : IsFresh base o.budget j

-- the job of an entry: a new one of the top level and of a handler, and a b-thread's own, which is taken out
abbrev pub Lends : Ground → PlainOptions → Entry Origin → List PlainSeat → List PlainSeat → List Job
    → Type 0
Lends base o The_top old new js = (new ≡ old) × (j : Job) × (js ≡ j ∷ []) × IsStarted base o 0 the_top j
Lends base o (Runs i) old new js =
    (new ≡ change (λ s. record s { job = None }) i old)
    × (js ≡ option_to_list (job_at (slice_get old i)))
Lends base o (Stops i None) old new js = (new ≡ old) × (js ≡ [])
Lends base o (Stops i (Some b)) old new js =
    (new ≡ old) × (b.replies ≡ []) × (j : Job) × (js ≡ j ∷ []) × IsStarted base o i b.origin j

-- the ground is that of the first of these entries, if there is one
abbrev pub IsGroundOf : Running → Ground → List (Entry Origin) → Type 0
IsGroundOf r base [] = Unit {0}
IsGroundOf r base (n ∷ ns) = base ≡ ground_at r.program r.options.budget (n ∷ ns)

-- the jobs of these entries can be lent
pub record CanLend (r : Running) (base : Ground) (o : PlainOptions) (ns : List (Entry Origin))
    (ss : List PlainSeat) : Type 0 where
  pub own : AreOwn r.program r.options 0 ss
  pub ready : where_from is_ready 0 ss ≡ runs_in ns
  pub alone : RunsAlone ns
  pub below : AreBelow (length ss) ns
  pub program_is : base.program ≡ r.program
  pub ground_is : IsGroundOf r base ns
  pub options_are : o ≡ r.options

-- the jobs of these entries are out, and with them the b-threads are what they were
pub record AreOut (r : Running) (ns : List (Entry Origin)) (js : List Job) (old new : List PlainSeat)
    : Type 0 where
  pub lent : AreLent r.program r.options (standing (map seated old)) ns js
  pub full : filled ns js (map seated new) ≡ map seated old
  pub own : AreOwn r.program r.options 0 new
  pub ready : where_from is_ready 0 new ≡ []
  pub waiting : where_from is_waiting 0 new ≡ where_from is_waiting 0 old
  pub stated : stated_from 0 new ≡ stated_from 0 old
  pub count : length new ≡ length old
