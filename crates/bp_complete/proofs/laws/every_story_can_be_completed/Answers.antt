use Rattle.bp_code.specs.Code.{code_of}
use Rattle.bp_complete.proofs.Completing.{completes}
use Rattle.bp_complete.proofs.laws.every_story_can_be_completed.Goals as goal

pub returns : goal.returns
returns c = λ p o records d brought many all told merges. completes (code_of p o) o brought many all records d told merges
