use Rattle.bp_replay.proofs.RunLogs.{logs_of_stories_replay}
use Rattle.bp_replay.proofs.laws.logs_of_stories_replay.Goals as goal

pub returns : goal.returns
returns c = logs_of_stories_replay
