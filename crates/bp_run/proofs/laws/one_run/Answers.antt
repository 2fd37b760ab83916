use Rattle.bp_run.proofs.Stories.{alone_is, only_alone, begins_alone}
use Rattle.bp_run.proofs.laws.one_run.Goals as goal

pub returns-clause-is_one : goal.returns-clause-is_one
returns-clause-is_one c = λ l o i. alone_is l o i

pub returns-clause-is_only : goal.returns-clause-is_only
returns-clause-is_only c = λ l o records d i h k. only_alone l o records d i h k

pub returns-clause-begins : goal.returns-clause-begins
returns-clause-begins c = λ l o records d i h. let b = begins_alone l o records d i h in (b.later, b.whole)
