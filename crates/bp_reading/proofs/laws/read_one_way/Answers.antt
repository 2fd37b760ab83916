use Rattle.bp_reading.proofs.OneWay.{read_one_way}
use Rattle.bp_reading.proofs.laws.read_one_way.Goals as goal

pub returns : goal.returns
returns c = read_one_way
