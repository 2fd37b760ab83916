use Rattle.std.proofs.Common.{rules, ap}
use Rattle.js_frames.specs.Places.{plain_ground}
use Rattle.bp_thread.specs.Jobs.{PlainJob}
use Rattle.test_jobs.proofs.Numbers.{none_numbered, one_more}
use Rattle.test_jobs.proofs.several.jobs_of.Goals as goal

pub loop-function-init : goal.loop-function-init
loop-function-init c = none_numbered (plain_ground c.args.ground.now) _ (search rules)

pub loop-function-preserved : goal.loop-function-preserved
loop-function-preserved c =
    one_more (plain_ground c.args.ground.now) c.loop-function.number c.loop-function.jobs.items c.push.new.self.items c.in_ok-job.job c.loop-function.invariant c.in_ok-job.ensures.program
    (ap (λ (j : PlainJob). j.outcome) c.in_ok-job.ensures.made) (ap (λ (j : PlainJob). j.number) c.in_ok-job.ensures.made) c.in_ok-push.ensures.items _ (search rules)
