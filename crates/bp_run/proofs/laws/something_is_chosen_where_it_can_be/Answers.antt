use Rattle.bp_run.specs.Selecting.{live}
use Rattle.bp_run.proofs.Chosen.{choice_is_chosen, nothing_chosen}
use Rattle.bp_run.proofs.laws.something_is_chosen_where_it_can_be.Goals as goal

pub returns-clause-chosen : goal.returns-clause-chosen
returns-clause-chosen c = λ l o d ch h. choice_is_chosen l.has l.word o.strategy (live l d.stand) d.stand.queue d.drawn ch h

pub returns-clause-nothing : goal.returns-clause-nothing
returns-clause-nothing c = λ l o d h. nothing_chosen l.has l.word o.strategy (live l d.stand) d.stand.queue d.drawn h
