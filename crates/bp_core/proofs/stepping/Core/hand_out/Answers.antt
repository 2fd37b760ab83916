use Rattle.std.proofs.Common.{sym, subst, Vec, Global}
use Rattle.bp_thread.specs.declared.job.Job.{Job}
use Rattle.bp_core.specs.Cores.{CanRunNow}
use Rattle.bp_core.proofs.Handing.{can_run_now}
use Rattle.bp_core.proofs.stepping.Core.hand_out.Goals as goal

pub returns-clause-can_run : goal.returns-clause-can_run
returns-clause-can_run c = λ taken m h.
    subst (λ (v : Vec Job Global). CanRunNow c.args.self.now.arbiter v.items m) (sym c.replace.ensures.value) (can_run_now c.args.self.now.arbiter c.args.self.now.jobs.items taken m h.at c.requires.lent)
