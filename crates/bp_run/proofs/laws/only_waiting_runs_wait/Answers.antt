use Rattle.bp_run.proofs.Waiting.{only_waiting_runs_wait}
use Rattle.bp_run.proofs.laws.only_waiting_runs_wait.Goals as goal

pub returns : goal.returns
returns c = λ l o d h. only_waiting_runs_wait l o d h
