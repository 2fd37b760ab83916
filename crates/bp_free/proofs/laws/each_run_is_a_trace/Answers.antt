use Rattle.bp_code.specs.Code.{code_of}
use Rattle.bp_free.proofs.Runs.{run_is_trace}
use Rattle.bp_free.proofs.laws.each_run_is_a_trace.Goals as goal

pub returns : goal.returns
returns c = λ p o records bytes n i k m h. run_is_trace (code_of p o) o records bytes n i k m h
