use Rattle.bp_replay.proofs.Alike.{replays_alike}
use Rattle.bp_replay.proofs.laws.replays_alike.Goals as goal

pub returns : goal.returns
returns c = replays_alike
