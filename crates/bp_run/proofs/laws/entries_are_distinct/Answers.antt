use Rattle.bp_run.proofs.Selected.{selected_rising}
use Rattle.bp_run.proofs.Numbers.{turn_rising}
use Rattle.bp_run.proofs.laws.entries_are_distinct.Goals as goal

pub returns-clause-moved : goal.returns-clause-moved
returns-clause-moved c = λ l o d ch r h. selected_rising l o d ch r h

pub returns-clause-turned : goal.returns-clause-turned
returns-clause-turned c = λ l p. turn_rising l p
