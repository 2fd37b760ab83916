use Rattle.bp_steps.proofs.Rows.{waves_are_legal}
use Rattle.bp_steps.proofs.Scheduled.{schedule_makes}
use Rattle.bp_steps.proofs.laws.stories_have_schedules.Goals as goal

-- where the law is proved, the definitions are computed at small programs too
pub returns : goal.returns
returns c =
    let computed = waves_are_legal in
    λ l o nodes records d some fits h. schedule_makes l o nodes some fits records d h
