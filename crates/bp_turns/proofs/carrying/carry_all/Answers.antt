use Rattle.std.proofs.Common.{◌≡◌, None, List, ◌<◌, length, subst}
use Rattle.js_frames.specs.Places.{plain_ground}
use Rattle.bp_thread.specs.declared.job.Job.{Job}
use Rattle.bp_thread.specs.Carried.{CarriedOut}
use Rattle.bp_pool.proofs.Going.{each_next}
use Rattle.bp_thread.specs.Jobs.{plain_job, IsOf, IsWhole}
use Rattle.bp_turns.proofs.Slices.{all_next}
use Rattle.bp_turns.proofs.carrying.carry_all.Goals as goal

pub carry-requires-clause-program : goal.carry-requires-clause-program
carry-requires-clause-program c =
    all_next (λ j. IsOf (plain_ground c.args.ground.now).program j) c.args.jobs.now.items c.loop-job.job-items c.deref_mut-job-items.result.now c.loop-job.job-index c.job-item.result
    c.deref_mut-job-items.ensures.value c.loop-job-test.true c.requires.program c.loop-job.invariant.rest

pub carry-requires-clause-open : goal.carry-requires-clause-open
carry-requires-clause-open c =
    all_next (λ j. (plain_job j).outcome ≡ None) c.args.jobs.now.items c.loop-job.job-items c.deref_mut-job-items.result.now c.loop-job.job-index c.job-item.result
    c.deref_mut-job-items.ensures.value c.loop-job-test.true c.requires.open c.loop-job.invariant.rest

pub carry-requires-clause-whole : goal.carry-requires-clause-whole
carry-requires-clause-whole c =
    all_next (IsWhole (plain_ground c.args.ground.now) c.args.budget) c.args.jobs.now.items c.loop-job.job-items c.deref_mut-job-items.result.now c.loop-job.job-index c.job-item.result
    c.deref_mut-job-items.ensures.value c.loop-job-test.true c.requires.whole c.loop-job.invariant.rest

pub loop-job-preserved : goal.loop-job-preserved
loop-job-preserved c =
    each_next (CarriedOut (plain_ground c.args.ground.now) c.args.budget) c.loop-job.job-index c.args.jobs.now.items c.loop-job.job-items c.job-item.result c.carry.new.job
    (subst (λ (js : List Job). c.loop-job.job-index < length js) c.deref_mut-job-items.ensures.value c.loop-job-test.true) c.loop-job.invariant c.in_ok-carry.ensures
