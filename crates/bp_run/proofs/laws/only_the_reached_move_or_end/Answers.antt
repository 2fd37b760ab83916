use Rattle.bp_run.proofs.Selected.{selected_says, selected_does, selected_count}
use Rattle.bp_run.proofs.laws.only_the_reached_move_or_end.Goals as goal

pub returns-clause-says : goal.returns-clause-says
returns-clause-says c = λ l o d ch r h i t k. selected_says l o d ch r h i t k

pub returns-clause-does : goal.returns-clause-does
returns-clause-does c = λ l o d ch r h i t k. selected_does l o d ch r h i t k

pub returns-clause-count : goal.returns-clause-count
returns-clause-count c = λ l o d ch r. selected_count d.stand ch.event ch.place r
