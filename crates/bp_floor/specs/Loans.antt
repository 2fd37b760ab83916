-- The jobs that are lent, and that come back with their outcomes.
use Rattle.std.specs.Prelude.{◌≡◌, ℕ, Bool, true, List, [], ◌∷◌, Option, Some, None, map, is_some}
use Rattle.js_program.specs.PlainProgram.{PlainProgram}
use Rattle.js_meaning.specs.Bodies.{Origin}
use Rattle.bp_log.specs.Options.{PlainOptions}
use Rattle.bp_run.specs.Configuration.{Stand, Thread, change, empty}
use Rattle.bp_run.specs.Settling.{Body, Entry, Pair, body_of}
use Rattle.bp_run.specs.Settling.Entry.{The_top, Runs, Stops}
use Rattle.bp_run.specs.Numbers.{number_of}
use Rattle.bp_meaning.specs.After.{effect_of}
use Rattle.bp_thread.specs.declared.job.Job.{Job}
use Rattle.bp_thread.specs.Jobs.{PlainJob, plain_job, IsOf, StandsFor, IsFresh}
use Rattle.bp_code.specs.Code.{ground_for, sealed_code_of as code_of}

-- a job of this body, with this number, of this program
pub record IsJobOf (program : PlainProgram) (n : ℕ) (b : Body Origin) (j : Job) : Type 0 where
  pub number_is : (plain_job j).number ≡ n
  pub origin_is : (plain_job j).origin ≡ b.origin
  pub replies_are : (plain_job j).replies ≡ b.replies
  pub of_program : IsOf program j

-- before it is carried on, under the program's options and on the ground of its body
pub record IsLent (program : PlainProgram) (o : PlainOptions) (n : ℕ) (b : Body Origin) (j : Job)
    : Type 0 where
  pub job : IsJobOf program n b j
  pub effects : (plain_job j).effects ≡ []
  pub outcome : (plain_job j).outcome ≡ None
  pub fresh : IsFresh (ground_for program o.budget b.origin) o.budget j

-- carried to its outcome
pub record IsCarried (program : PlainProgram) (o : PlainOptions) (n : ℕ) (b : Body Origin) (j : Job)
    : Type 0 where
  pub job : IsJobOf program n b j
  pub outcome : (plain_job j).outcome ≡ Some ((code_of program o).after b.origin b.replies).outcome
  pub stands : StandsFor (ground_for program o.budget b.origin) o.budget j

-- carried to its outcome, with its effects whole
pub record IsDone (program : PlainProgram) (o : PlainOptions) (n : ℕ) (b : Body Origin) (j : Job)
    : Type 0 where
  pub carried : IsCarried program o n b j
  pub effects :
      map effect_of (plain_job j).effects ≡ ((code_of program o).after b.origin b.replies).effects

-- The jobs are those of the entries that have a body, in order, and each is as `Is` says.
abbrev pub JobFor : (ℕ → Body Origin → Job → Type 0) → ℕ → Option (Body Origin) → List Job
    → (List Job → Type 0) → Type 0
JobFor Is n None js rest = rest js
JobFor Is n (Some b) [] rest = ⊥
JobFor Is n (Some b) (j ∷ js) rest = Is n b j × rest js

abbrev pub AreJobs : (ℕ → Body Origin → Job → Type 0) → PlainProgram → PlainOptions → Stand Origin
    → List (Entry Origin) → List Job → Type 0
AreJobs Is program o s [] js = js ≡ []
AreJobs Is program o s (n ∷ ns) js =
    JobFor Is (number_of n) (body_of (code_of program o) s n) js (AreJobs Is program o s ns)

-- lent out: before they run
abbrev pub AreLent : PlainProgram → PlainOptions → Stand Origin → List (Entry Origin) → List Job
    → Type 0
AreLent program o s ns js = AreJobs (IsLent program o) program o s ns js

-- come back
abbrev pub AreDone : PlainProgram → PlainOptions → Stand Origin → List (Entry Origin) → List Job
    → Type 0
AreDone program o s ns js = AreJobs (IsDone program o) program o s ns js

-- a b-thread whose job is back
abbrev pub fill : PlainJob → Thread Origin → Thread Origin
fill j t = record t { origin = j.origin; replies = j.replies }

-- the b-threads, with the jobs of these entries in their places
abbrev pub filled : List (Entry Origin) → List Job → List (Thread Origin) → List (Thread Origin)
filled [] js ts = ts
filled (n ∷ ns) [] ts = ts
filled (The_top ∷ ns) (j ∷ js) ts = filled ns js ts
filled (Runs i ∷ ns) (j ∷ js) ts = filled ns js (change (fill (plain_job j)) i ts)
filled (Stops i None ∷ ns) (j ∷ js) ts = filled ns (j ∷ js) ts
filled (Stops i (Some b) ∷ ns) (j ∷ js) ts = filled ns js ts

-- a pair, with these jobs in their places
abbrev pub filled_pair : List Job → Pair Origin → Pair Origin
filled_pair js p = record p { stand = record p.stand { threads = filled p.entries js p.stand.threads } }

-- whether an entry has a body
abbrev pub has_body : Entry Origin → Bool
has_body The_top = true
has_body (Runs i) = true
has_body (Stops i b) = is_some b

-- where these b-threads stand, and nothing else
abbrev pub standing : List (Thread Origin) → Stand Origin
standing ts = record empty { threads = ts }
