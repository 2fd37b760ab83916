use Rattle.bp_run.proofs.Stories.{alone_is, only_alone, begins_alone}
use Rattle.bp_code.specs.Code.{code_of}
use Rattle.bp_code.proofs.laws.one_run.Goals as goal

pub returns-clause-is_one : goal.returns-clause-is_one
returns-clause-is_one c = λ p o i. alone_is (code_of p o) o i

pub returns-clause-is_only : goal.returns-clause-is_only
returns-clause-is_only c = λ p o records d i h k. only_alone (code_of p o) o records d i h k

pub returns-clause-begins : goal.returns-clause-begins
returns-clause-begins c = λ p o records d i h. let b = begins_alone (code_of p o) o records d i h in (b.later, b.whole)
