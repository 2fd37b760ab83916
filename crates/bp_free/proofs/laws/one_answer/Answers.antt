use Rattle.bp_code.specs.Code.{code_of}
use Rattle.bp_free.proofs.Unique.{one_answer}
use Rattle.bp_free.proofs.laws.one_answer.Goals as goal

pub returns : goal.returns
returns c = λ p o bytes a b real h k. one_answer (code_of p o) o real bytes a b h k
