use Rattle.std.proofs.Common.{refl}
use Rattle.js_frames.specs.Runs.{IsLost}
use Rattle.js_frames.proofs.machine.Machine.idle.Goals as goal

pub returns : goal.returns
unfolding IsLost
returns c = refl
