-- B-threads with their jobs.
use Rattle.std.specs.Prelude.{◌≡◌, ℕ, suc, Bool, not, ◌&&◌, List, [], ◌∷◌, Option, Some, None, is_some, is_none, if◌then◌else◌}
use Rattle.std.specs.List.{cons_option}
use Rattle.js_data.specs.Event.{PlainEvent}
use Rattle.js_value.specs.Value.{PlainSet}
use Rattle.js_program.specs.PlainProgram.{PlainProgram}
use Rattle.js_meaning.specs.Bodies.{Origin, the_top}
use Rattle.bp_log.specs.Options.{PlainOptions}
use Rattle.bp_run.specs.Bodies.{Outcome}
use Rattle.bp_run.specs.Configuration.{Thread}
use Rattle.bp_run.specs.Selecting.{Live, at_stop}
use Rattle.bp_thread.specs.declared.job.Job.{Job}
use Rattle.bp_thread.specs.Jobs.{plain_job, IsOf, StandsFor, IsFresh}
use Rattle.bp_code.specs.Code.{ground_for, sealed_code_of as code_of}

-- a b-thread: its name, its job unless that is lent or let go, and whether it has ended
pub record PlainSeat : Type 0 where
  pub name : List ℕ
  pub job : Option Job
  pub ended : Bool

abbrev pub origin_in : Option Job → Origin
origin_in None = the_top
origin_in (Some j) = (plain_job j).origin

abbrev pub replies_in : Option Job → List PlainEvent
replies_in None = []
replies_in (Some j) = (plain_job j).replies

-- a b-thread as the definitions see it; one whose job is not there has neither body nor replies
abbrev pub seated : PlainSeat → Thread Origin
seated s =
    record { name = s.name; origin = origin_in s.job; replies = replies_in s.job; ended = s.ended }

abbrev pub outcome_in : Option Job → Option (Outcome PlainSet)
outcome_in None = None
outcome_in (Some j) = (plain_job j).outcome

-- it has not ended, and its job has no outcome or is lent
abbrev pub is_waiting : PlainSeat → Bool
is_waiting s = not s.ended && is_none (outcome_in s.job)

-- so, and its job is there
abbrev pub is_ready : PlainSeat → Bool
is_ready s = is_waiting s && is_some s.job

-- the numbers of those that are so, from this number on
abbrev pub where_from : (PlainSeat → Bool) → ℕ → List PlainSeat → List ℕ
where_from f n [] = []
where_from f n (s ∷ ss) = if f s then n ∷ where_from f (suc n) ss else where_from f (suc n) ss

abbrev pub stop_at : ℕ → Option (Outcome PlainSet) → Option (Live PlainSet)
stop_at n None = None
stop_at n (Some x) = at_stop n x

-- what a b-thread states
abbrev pub statement_at : ℕ → PlainSeat → Option (Live PlainSet)
statement_at n s = if s.ended then None else stop_at n (outcome_in s.job)

abbrev pub stated_from : ℕ → List PlainSeat → List (Live PlainSet)
stated_from n [] = []
stated_from n (s ∷ ss) = cons_option (statement_at n s) (stated_from (suc n) ss)

-- the job of the b-thread of this number, of this program
pub record IsOwn (program : PlainProgram) (o : PlainOptions) (n : ℕ) (j : Job) : Type 0 where
  pub number_is : (plain_job j).number ≡ n
  pub of_program : IsOf program j
  pub effects : (plain_job j).effects ≡ []
  pub fresh : (plain_job j).outcome ≡ None
      → IsFresh (ground_for program o.budget (plain_job j).origin) o.budget j
  pub stands : (x : Outcome PlainSet) → (plain_job j).outcome ≡ Some x
      → StandsFor (ground_for program o.budget (plain_job j).origin) o.budget j
  pub outcome : (x : Outcome PlainSet) → (plain_job j).outcome ≡ Some x
      → x ≡ ((code_of program o).after (plain_job j).origin (plain_job j).replies).outcome

abbrev pub IsOwnIn : PlainProgram → PlainOptions → ℕ → Option Job → Type 0
IsOwnIn program o n None = Unit {0}
IsOwnIn program o n (Some j) = IsOwn program o n j

abbrev pub AreOwn : PlainProgram → PlainOptions → ℕ → List PlainSeat → Type 0
AreOwn program o n [] = Unit {0}
AreOwn program o n (s ∷ ss) = IsOwnIn program o n s.job × AreOwn program o (suc n) ss

-- one that has ended lets its job go
abbrev pub swept : PlainSeat → PlainSeat
swept s = if s.ended then record s { job = None } else s
