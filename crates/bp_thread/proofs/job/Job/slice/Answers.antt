use Rattle.js_frames.specs.Places.{plain_ground}
use Rattle.bp_thread.proofs.Slicing.{carries}
use Rattle.bp_thread.proofs.job.Job.slice.Goals as goal

pub returns-clause-carries : goal.returns-clause-carries
returns-clause-carries c = λ budget.
    carries (plain_ground c.args.ground.now) budget c.args.nodes c.args.self.now c.step.new.self _ c.step.ensures.same
    (λ begun made at. rw c.in-Ok.is at (c.step.ensures.stands budget begun made at))
    (rw c.in-Ok.is at c.step.ensures.program)
