use Rattle.bp_run.proofs.Selected.{selected_is_chosen}
use Rattle.bp_run.proofs.laws.selected_is_requested_and_not_blocked.Goals as goal

pub returns : goal.returns
returns c = λ l o d ch r h. selected_is_chosen l o d ch r h
