use Rattle.bp_run.proofs.Selected.{selected_says, selected_does}
use Rattle.bp_code.specs.Code.{code_of}
use Rattle.bp_code.proofs.laws.only_the_reached_move_or_end.Goals as goal

pub returns-clause-says : goal.returns-clause-says
returns-clause-says c = λ p o d ch r h i t k. selected_says (code_of p o) o d ch r h i t k

pub returns-clause-does : goal.returns-clause-does
returns-clause-does c = λ p o d ch r h i t k. selected_does (code_of p o) o d ch r h i t k
