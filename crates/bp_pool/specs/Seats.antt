-- Jobs that are not done yet, taken out of their list.
use Rattle.std.specs.Prelude.{◌≡◌, ℕ, ◌<◌, ◌≤◌, eqb, List, All, length, slice_index_or, Option, Some, None, false, IsSome}
use Rattle.std.specs.List.{count_by}
use Rattle.js_meaning.specs.State.{Ground}
use Rattle.bp_thread.specs.declared.job.Job.{Job}
use Rattle.bp_thread.specs.Jobs.{plain_job, IsOf}
use Rattle.bp_thread.specs.Carried.{CarriedOut}
use Rattle.bp_pool.specs.declared.seat.Seat.{Seat}
use Rattle.bp_pool.specs.Carrying.{IsCarriedOn}

-- slices were made of the seat's job; unless memory ran out, they carried the job on
pub record Turned (base : Ground) (old new : Seat) : Type 0 where
  pub place : new.place ≡ old.place
  pub of_program : IsOf base.program new.job
  pub carried : new.lost ≡ false → (old.lost ≡ false) × IsCarriedOn base old.job new.job

-- a slice of the seat's job can be made, and memory did not run out
pub record IsOpen (base : Ground) (s : Seat) : Type 0 where
  pub of_program : IsOf base.program s.job
  pub still : (plain_job s.job).outcome ≡ None
  pub there : s.lost ≡ false

-- unless it was lost, the seat's job has its outcome
pub record IsOut (s : Seat) : Type 0 where
  pub out : s.lost ≡ false → IsSome (plain_job s.job).outcome

-- unless memory ran out, the seat has the list's job of its place, carried on
pub record IsSeat (base : Ground) (jobs : List Job) (s : Seat) : Type 0 where
  pub within : s.place < length jobs
  pub of_program : IsOf base.program s.job
  pub carried : s.lost ≡ false → (d : Job) → IsCarriedOn base (slice_index_or jobs s.place d) s.job

-- how many seats are of the place k
abbrev pub seats_of : ℕ → List Seat → ℕ
seats_of k seats = count_by (λ s. eqb s.place k) seats

-- no two of the seats are of one place
abbrev pub HaveOwnPlaces : List Seat → Type 0
HaveOwnPlaces seats = (place : ℕ) → seats_of place seats ≤ 1

-- at its place is the job e, carried out under whatever budget, or it has one of this many seats
abbrev pub IsOutOrSeated : Ground → Job → Option Job → ℕ → Type 0
IsOutOrSeated base e (Some x) seats = (budget : ℕ) → CarriedOut base budget e x
IsOutOrSeated base e None seats = 0 < seats

-- each job of the list is back at its place, carried out, or has a seat
pub record AreSeated (base : Ground) (jobs : List Job) (done : List (Option Job))
    (seats : List Seat) : Type 0 where
  pub as_many : length done ≡ length jobs
  pub each : (k : ℕ) (d : Job) (o : Option Job) → k < length jobs →
      IsOutOrSeated base (slice_index_or jobs k d) (slice_index_or done k o) (seats_of k seats)
  pub own : All (IsSeat base jobs) seats

-- whatever list was so seated is so still
pub record StaySeated (base : Ground) (done : List (Option Job)) (seats : List Seat)
    (new : List (Option Job)) (left : List Seat) : Type 0 where
  pub stay : (jobs : List Job) → AreSeated base jobs done seats → AreSeated base jobs new left
