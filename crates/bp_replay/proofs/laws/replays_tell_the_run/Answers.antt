use Rattle.bp_replay.proofs.WholeLogs.{replays_tell_the_run}
use Rattle.bp_replay.proofs.laws.replays_tell_the_run.Goals as goal

pub returns : goal.returns
returns c = replays_tell_the_run
