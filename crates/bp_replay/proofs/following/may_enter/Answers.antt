use Rattle.bp_replay.proofs.Steps.{enters_same}
use Rattle.bp_replay.proofs.following.may_enter.Goals as goal

pub returns-in-In-clause-same : goal.returns-in-In-clause-same
returns-in-In-clause-same c = λ d t. enters_same d c.args.arbiter.now c.args.found.now t c.requires.rest c.floor.ensures.shows
