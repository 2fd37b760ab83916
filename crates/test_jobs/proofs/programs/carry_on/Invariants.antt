use Rattle.std.proofs.Common.{◌≡◌, None}
use Rattle.js_frames.specs.Places.{plain_ground}
use Rattle.bp_thread.specs.Jobs.{plain_job, IsOf}
use Rattle.test_jobs.proofs.programs.carry_on.Given as goal

abbrev pub invariant-loop : goal.invariant-loop
invariant-loop l = IsOf (let g = plain_ground l.ground in g.program) l.job × ((plain_job l.job).outcome ≡ None)
