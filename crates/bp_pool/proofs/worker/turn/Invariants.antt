use Rattle.std.proofs.Common.{◌≡◌}
use Rattle.crossbeam_queue.specs.Passes.{view, IsPassOf, IsSamePass}
use Rattle.js_frames.specs.Places.{plain_ground}
use Rattle.bp_pool.specs.Seats.{Turned, IsOpen}
use Rattle.bp_pool.proofs.worker.turn.Given as goal

abbrev pub invariant-loop-holds : goal.invariant-loop-holds
invariant-loop-holds g l =
    IsPassOf l.queue l.pass × IsSamePass l.fn.pass l.pass × (view l.pass ≡ view l.fn.pass) × IsOpen (plain_ground l.ground) l.seat × Turned (plain_ground l.ground) l.fn.seat l.seat
