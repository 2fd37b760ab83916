use Rattle.bp_run.proofs.Stories.{text_prefix}
use Rattle.bp_code.specs.Code.{code_of}
use Rattle.bp_code.proofs.laws.prefix_prints_prefix.Goals as goal

pub returns : goal.returns
returns c = λ p o rs qs t h. text_prefix (code_of p o) o rs qs t h
