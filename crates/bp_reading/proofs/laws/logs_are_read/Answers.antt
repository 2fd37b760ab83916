use Rattle.bp_reading.proofs.Whole.{logs_are_read}
use Rattle.bp_reading.proofs.laws.logs_are_read.Goals as goal

pub returns : goal.returns
returns c = logs_are_read
