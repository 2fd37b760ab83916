use Rattle.bp_pool.proofs.Steps.{begins, forks, merges}
use Rattle.bp_pool.proofs.Rules.{pushes, pops}
use Rattle.bp_pool.proofs.laws.each_step_keeps_the_rule.Goals as goal

pub returns-clause-begins : goal.returns-clause-begins
returns-clause-begins c = begins

pub returns-clause-pushes : goal.returns-clause-pushes
returns-clause-pushes c = pushes

pub returns-clause-pops : goal.returns-clause-pops
returns-clause-pops c = pops

pub returns-clause-splits : goal.returns-clause-splits
returns-clause-splits c = λ base items views pass v rule at more. forks base pass v more items views rule at

pub returns-clause-joins : goal.returns-clause-joins
returns-clause-joins c = λ base items views pass other v u rule at some_part two second. merges base pass v other u some_part items views rule at two second
