-- What a worker gives back.
use Rattle.std.specs.Prelude.{◌≡◌, ℕ, List, All, Option}
use Rattle.std.specs.List.{sum_by}
use Rattle.crossbeam_queue.specs.declared.array_queue.Doing.{Doing}
use Rattle.crossbeam_queue.specs.declared.array_queue.Slotted.{Slotted}
use Rattle.crossbeam_queue.specs.Passes.{view, IsPassOf}
use Rattle.js_meaning.specs.State.{Ground}
use Rattle.bp_pool.specs.declared.seat.Seat.{Seat}
use Rattle.bp_pool.specs.declared.rule.Hand.{Hand}
use Rattle.bp_pool.specs.declared.worker.Worked.{Worked}
use Rattle.bp_pool.specs.Seats.{IsOut}
use Rattle.bp_pool.specs.Shared.{IsLent, weigh}

-- x is the seat of some entry of the list, and its job was carried to its outcome or lost
pub record IsDone (base : Ground) (lent : List Seat) (x : Seat) : Type 0 where
  pub of : IsLent base lent x
  pub out : IsOut x

-- these seats of the list are done, and are those whose entries are in hand
pub record Holds (base : Ground) (lent : List Seat) (v : Hand) (seats : List Seat) : Type 0 where
  pub held : (h : ℕ → ℕ) → sum_by h v.held ≡ weigh h seats
  pub done : All (IsDone base lent) seats

-- a worker's pass, which has one part of the queue q, and the seats that are in its hand, each done
pub record IsWork {Q A : Type 0} (base : Ground) (q : Slotted (Option Seat) (Doing Seat Hand) Q A)
    (lent : List Seat) (w : Worked) : Type 0 where
  pub pass : IsPassOf q w.pass
  pub lent_is : (view w.pass).lent ≡ lent
  pub part : (view w.pass).parts ≡ 1
  pub holds : Holds base lent (view w.pass) w.seats.items

-- the same seats, in some order, each done
pub record AreFinished (base : Ground) (lent after : List Seat) : Type 0 where
  pub all : (h : ℕ → ℕ) → weigh h after ≡ weigh h lent
  pub done : All (IsDone base lent) after
