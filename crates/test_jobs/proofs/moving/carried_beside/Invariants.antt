use Rattle.std.proofs.Common.{◌≡◌, None}
use Rattle.js_frames.specs.Places.{plain_ground}
use Rattle.bp_thread.specs.Jobs.{plain_job, IsOf}
use Rattle.test_jobs.proofs.moving.carried_beside.Given as goal

abbrev pub invariant-loop : goal.invariant-loop
invariant-loop g l = IsOf (let g = plain_ground l.ground in g.program) l.carried × ((plain_job l.carried).outcome ≡ None)
