use Rattle.std.proofs.Common.{[]}
use Rattle.test_cores.proofs.cores.open.Goals as goal

pub returns-clause-somewhere : goal.returns-clause-somewhere
returns-clause-somewhere c = record { taken = []; moment = _; at = c.in_ok-open.ensures.at }
