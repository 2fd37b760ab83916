use Rattle.bp_records.proofs.Programs.{stories_stand}
use Rattle.bp_records.proofs.laws.stories_stand.Goals as goal

pub returns : goal.returns
returns c = stories_stand
