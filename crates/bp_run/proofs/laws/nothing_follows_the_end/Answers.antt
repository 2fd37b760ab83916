use Rattle.bp_run.proofs.Stories.{nothing_follows}
use Rattle.bp_run.proofs.laws.nothing_follows_the_end.Goals as goal

pub returns : goal.returns
returns c = λ l o rs qs v r. nothing_follows l o rs qs v r
