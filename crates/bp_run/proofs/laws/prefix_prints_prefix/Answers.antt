use Rattle.bp_run.proofs.Stories.{text_prefix}
use Rattle.bp_run.proofs.laws.prefix_prints_prefix.Goals as goal

pub returns : goal.returns
returns c = λ l o rs qs t h. text_prefix l o rs qs t h
