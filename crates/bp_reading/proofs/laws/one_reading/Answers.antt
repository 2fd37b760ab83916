use Rattle.bp_reading.proofs.Law.{one_reading}
use Rattle.bp_reading.proofs.laws.one_reading.Goals as goal

pub returns : goal.returns
returns c = one_reading
