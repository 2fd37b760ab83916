-- Lent jobs that workers carry on.
use Rattle.std.proofs.Common.{◌≡◌, ℕ, List, All, None}
use Rattle.std.proofs.lemmas.List.Elements.{All-weaker, All-from_recursion}
use Rattle.js_meaning.specs.State.{Ground}
use Rattle.bp_thread.specs.declared.job.Job.{Job}
use Rattle.bp_thread.specs.Jobs.{plain_job, IsOf, IsWhole}
use Rattle.bp_arbiter.specs.Lend.{AllCanRun, CanRun}
use Rattle.bp_pool.specs.Carrying.{AreOf, AreOpen}

-- jobs that are to be carried on are of the ground's program
pub are_of : (base : Ground) (budget : ℕ) (jobs : List Job) → AllCanRun base budget jobs → AreOf base jobs
are_of base budget jobs h = All-weaker (CanRun base budget) (IsOf base.program) (λ j c. c.of_program) jobs (All-from_recursion (CanRun base budget) jobs h)

-- and have no outcome
pub are_open : (base : Ground) (budget : ℕ) (jobs : List Job) → AllCanRun base budget jobs → AreOpen jobs
are_open base budget jobs h = All-weaker (CanRun base budget) (λ (j : Job). (plain_job j).outcome ≡ None) (λ j c. c.outcome) jobs (All-from_recursion (CanRun base budget) jobs h)

-- and their effects are whole
pub are_whole : (base : Ground) (budget : ℕ) (jobs : List Job) → AllCanRun base budget jobs → All (IsWhole base budget) jobs
are_whole base budget jobs h = All-weaker (CanRun base budget) (IsWhole base budget) (λ j c. c.whole) jobs (All-from_recursion (CanRun base budget) jobs h)
