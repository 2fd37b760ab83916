use Rattle.js_frames.specs.Runs.{constants_by}
use Rattle.js_frames.proofs.machine.Machine.constants.Goals as goal

pub returns : goal.returns
unfolding constants_by
returns c = c.into_constants.ensures
