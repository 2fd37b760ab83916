use Rattle.bp_feeds.proofs.Behind.{items_follow}
use Rattle.bp_feeds.proofs.laws.items_follow.Goals as goal

pub returns : goal.returns
returns c = items_follow
