use Rattle.bp_run.specs.Selecting.{live}
use Rattle.bp_run.proofs.Chosen.{choice_is_chosen, nothing_chosen}
use Rattle.bp_code.specs.Code.{code_of}
use Rattle.bp_code.proofs.laws.something_is_chosen_where_it_can_be.Goals as goal

pub returns-clause-chosen : goal.returns-clause-chosen
returns-clause-chosen c = λ p o d ch h. let l = code_of p o in choice_is_chosen l.has l.word o.strategy (live l d.stand) d.stand.queue d.drawn ch h

pub returns-clause-nothing : goal.returns-clause-nothing
returns-clause-nothing c = λ p o d h. let l = code_of p o in nothing_chosen l.has l.word o.strategy (live l d.stand) d.stand.queue d.drawn h
