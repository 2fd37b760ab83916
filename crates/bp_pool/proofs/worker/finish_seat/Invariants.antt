use Rattle.js_frames.specs.Places.{plain_ground}
use Rattle.bp_pool.specs.Seats.{Turned, IsOpen}
use Rattle.bp_pool.proofs.worker.finish_seat.Given as goal

abbrev pub invariant-loop-holds : goal.invariant-loop-holds
invariant-loop-holds g l = IsOpen (plain_ground l.ground) l.seat × Turned (plain_ground l.ground) l.fn.seat l.seat
