use Rattle.std.proofs.Common.{Bool, IsTrue, IsSome, ◌↔◌, subst}
use Rattle.bp_thread.specs.Jobs.{plain_job}
use Rattle.bp_thread.proofs.Standing.{still_open}
use Rattle.test_jobs.proofs.programs.carry_on.Goals as goal

pub loop-preserved : goal.loop-preserved
loop-preserved c =
    (c.in_ok-slice.ensures.program, still_open _ (subst (λ (done : Bool). IsTrue done ↔ IsSome (plain_job c.slice.new.self).outcome) c.if-branch.false c.in_ok-slice.ensures.done))
