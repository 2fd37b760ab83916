use Rattle.bp_run.proofs.Waiting.{only_waiting_runs_wait}
use Rattle.bp_code.specs.Code.{code_of}
use Rattle.bp_code.proofs.laws.only_waiting_runs_wait.Goals as goal

pub returns : goal.returns
returns c = λ p o d h. only_waiting_runs_wait (code_of p o) o d h
