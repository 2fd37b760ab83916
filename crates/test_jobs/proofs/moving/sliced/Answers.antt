use Rattle.std.proofs.Common.{Bool, IsTrue, IsSome, ◌↔◌, subst}
use Rattle.bp_thread.specs.Jobs.{plain_job}
use Rattle.bp_thread.proofs.Standing.{still_open}
use Rattle.test_jobs.proofs.moving.sliced.Goals as goal

pub returns-clause-open : goal.returns-clause-open
returns-clause-open c = λ still. still_open _ (subst (λ (done : Bool). IsTrue done ↔ IsSome (plain_job c.slice.new.self).outcome) still c.in_ok-done.ensures.done)
