use Rattle.bp_run.proofs.Stories.{nothing_follows}
use Rattle.bp_code.specs.Code.{code_of}
use Rattle.bp_code.proofs.laws.nothing_follows_the_end.Goals as goal

pub returns : goal.returns
returns c = λ p o rs qs v r. nothing_follows (code_of p o) o rs qs v r
