use Rattle.bp_pool.proofs.Rules.{entry_of}
use Rattle.bp_pool.proofs.laws.what_is_queued_is_its_entry_carried_on.Goals as goal

pub returns : goal.returns
returns c = entry_of
