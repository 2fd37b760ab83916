use Rattle.js_frames.specs.Places.{plain_ground}
use Rattle.bp_thread.specs.Carried.{CarriedOut}
use Rattle.bp_pool.proofs.Going.{EachUpTo}
use Rattle.bp_turns.proofs.carrying.carry_all.Given as goal

abbrev pub invariant-loop-job : goal.invariant-loop-job
invariant-loop-job l = EachUpTo (CarriedOut (plain_ground l.ground) l.budget) l.job-index l.fn.jobs.items l.job-items
