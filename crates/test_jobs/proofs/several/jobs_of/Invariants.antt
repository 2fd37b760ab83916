use Rattle.js_frames.specs.Places.{plain_ground}
use Rattle.test_jobs.proofs.Numbers.{AreNumbered}
use Rattle.test_jobs.proofs.several.jobs_of.Given as goal

abbrev pub invariant-loop-function : goal.invariant-loop-function
invariant-loop-function l = AreNumbered (plain_ground l.ground) l.number l.jobs.items
