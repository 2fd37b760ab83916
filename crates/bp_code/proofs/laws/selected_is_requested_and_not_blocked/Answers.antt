use Rattle.bp_run.proofs.Selected.{selected_is_chosen}
use Rattle.bp_code.specs.Code.{code_of}
use Rattle.bp_code.proofs.laws.selected_is_requested_and_not_blocked.Goals as goal

pub returns : goal.returns
returns c = λ p o d ch r h. selected_is_chosen (code_of p o) o d ch r h
