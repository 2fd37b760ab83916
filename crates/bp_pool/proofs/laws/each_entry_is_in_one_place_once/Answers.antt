use Rattle.bp_pool.proofs.Rules.{one_place}
use Rattle.bp_pool.proofs.laws.each_entry_is_in_one_place_once.Goals as goal

pub returns : goal.returns
returns c = one_place
